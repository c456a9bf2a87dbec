-- A call over bytes and memory.
use Rattle.std.proofs.Common.{◌≡◌, ℕ, ◌++◌, List, take, drop, Ok, Err, Result, sym, refl, ap, ◌∙◌, subst}
use Rattle.std.proofs.lemmas.List.{take_at, drop_at, take-append-drop}
use Rattle.model.specs.Limits.{Limits}
use Rattle.model.specs.Replica.{Replica, refused}
use Rattle.memory.specs.Layout.{Room, limits_at, me_at, words}
use Rattle.memory.specs.Image.{encode}
use Rattle.memory.specs.Valid.{Valid}
use Rattle.memory.proofs.Starts.{lent}
use Rattle.logs.specs.State.{Holds}
use Rattle.logs.specs.declared.place.Place.{Place}
use Rattle.ranges.specs.Checked.{Checked}
use Rattle.wire.specs.Bytes.{write_answer}
use Rattle.wire.specs.Reading.{read}
use Rattle.wire_out.proofs.Overs.{wrote_first}
use Rattle.calls.specs.Answered.{AllSupported, code_answer, number_of, place_of}
use Rattle.calls.specs.Entered.{Enters}
use Rattle.calls.specs.declared.Reason.{Reason}
use Rattle.calls.specs.declared.Reason.TheVariants.{OutOfRange}
use Rattle.calls.proofs.Said.{refused_said}
use Rattle.replies.specs.Written.{Writes}
use Rattle.endpoint.specs.Call.{Answered, Calls, Happens}

-- what is refused leaves all as it was
pub refuses : (m s : List ℕ) (w : Reason) → ((l : Limits) (r : Replica) (rest : List ℕ) → AllSupported l → Valid l r → m ≡ encode l r ++ rest → Err w ≡ code_answer l r (read s)) →
    ((Room (limits_at m) (me_at m) m → ⊥) → w ≡ OutOfRange) → Calls m s m (write_answer (refused (number_of w) (place_of w)))
refuses m s w f g = record {
  right = λ l r rest all v e.
      let no = refused_said l r (read s) w (f l r rest all v e) in
      record { valid = subst (Valid l) (sym no.1) v; mem = e ∙ ap (λ x. encode l x ++ rest) (sym no.1); says = ap write_answer no.0 };
  foreign = λ h. (refl, ap (λ x. write_answer (refused (number_of x) (place_of x))) (g h));
}

-- an event in range happens in the first n words
module _ (m s : List ℕ) (n : ℕ) (p : Place) (x : Checked) (image : (l : Limits) (r : Replica) (rest : List ℕ) → AllSupported l → Valid l r → m ≡ encode l r ++ rest → Enters l r s p x × (n ≡ words l)) (room : Room (limits_at m) (me_at m) m) where
  pub happens : (r : Result ℕ Reason) (m' before out : List ℕ) → Happens r (take n m) p x m' before out → Answered r m s (m' ++ drop n m) before out
  happens (Ok k) m' before out h = record {
    bytes = h.bytes;
    wrote = h.wrote;
    most = h.most;
    are = record {
      right = λ l r rest all v e.
          let y = image l r rest all v e in
          let parts = lent l r m rest n v.fits y.1 e in
          let before : Holds l r (take n m) = record { valid = v; mem = parts.0 } in
          let done = h.are l r (read s) before y.0.laid all y.0.comes in
          record { valid = done.0.valid; mem = (λ i. done.0.mem i ++ parts.1 i); says = done.1 };
      foreign = λ f. absurd (f room);
    };
  }
  happens (Err w) m' before out h = (
    h.0,
    ap (λ t. t ++ drop n m) h.1 ∙ take-append-drop n m,
    refuses m s w
        (λ l r rest all v e.
        let y = image l r rest all v e in
        let parts = lent l r m rest n v.fits y.1 e in
        h.2 l r (read s) (record { valid = v; mem = parts.0 }) y.0.laid all y.0.comes)
        (λ f. absurd (f room)),
  )

-- THE SLICE OF THE ANSWER: its first bytes, and the others
module _ (n : ℕ) (before after : List ℕ) (P : List ℕ → Type 0) (w : Writes n before after P) where
  pub front : take n after ≡ w.bytes
  front = let first = wrote_first w.wrote in ap (take n) first.1 ∙ take_at w.bytes (drop n before) n (sym first.0)

  pub back : drop n after ≡ drop n before
  back = let first = wrote_first w.wrote in ap (drop n) first.1 ∙ drop_at w.bytes (drop n before) n (sym first.0)
