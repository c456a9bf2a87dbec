-- Lives of clusters happen: openings and calls have an outcome, and only one.
use Rattle.std.proofs.Common.{◌≡◌, ℕ, List, [], ◌++◌, length, take, drop, replicate, sym, refl, ap, ◌∙◌, subst, arith}
use Rattle.std.proofs.lemmas.List.{append-nil, drop_all, drop_at, length-replicate, take_at}
use Rattle.model.specs.Limits.{Limits}
use Rattle.model.specs.Replica.{Replica, answer, after, new_replica}
use Rattle.memory.specs.Layout.{InRange, code_limits, total, words}
use Rattle.memory.specs.Image.{encode, rows, slots}
use Rattle.memory.specs.Valid.{Valid}
use Rattle.memory.proofs.Images.{encode_length}
use Rattle.memory.proofs.Starts.{header_says, new_valid}
use Rattle.memory.proofs.Faithful.{same_state}
use Rattle.wire.specs.Bytes.{write_answer}
use Rattle.wire.specs.Reading.{read}
use Rattle.wire.proofs.Events.{read_is_readable}
use Rattle.calls.specs.Answered.{AllSupported}
use Rattle.endpoint.specs.Call.{Calls, Does}
use Rattle.endpoint.specs.Life.{System, Started, Lent}
use Rattle.endpoint.specs.Theorems.{LivesHappen}
use Rattle.endpoint.proofs.Follows.{does, run_follows, started_follows}
use Rattle.endpoint.proofs.Stays.{valid_after}

-- ONE MEMORY is the image of one state
module _ (l k : Limits) (r q : Replica) (rest tail : List ℕ) (v : Valid l r) (u : Valid k q) (same : encode l r ++ rest ≡ encode k q ++ tail) where
  limits_same : code_limits l ≡ code_limits k
  limits_same = sym (header_says l r (encode l r ++ rest) rest v refl).0.0 ∙ (header_says k q (encode l r ++ rest) tail u same).0.0

  size_same : length (encode l r) ≡ length (encode k q)
  size_same = encode_length l r v.fits ∙ ap total limits_same ∙ sym (encode_length k q u.fits)

  image_same : encode l r ≡ encode k q
  image_same = sym (take_at (encode l r) rest (length (encode l r)) refl) ∙ ap (take (length (encode l r))) same ∙ take_at (encode k q) tail (length (encode l r)) (sym size_same)

  pub rest_same : rest ≡ tail
  rest_same = sym (drop_at (encode l r) rest (length (encode l r)) refl) ∙ ap (drop (length (encode l r))) same ∙ drop_at (encode k q) tail (length (encode l r)) (sym size_same)

  pub state_same : r ≡ q
  state_same = same_state l k r q v u image_same

  pub all_same : AllSupported l → AllSupported k → l ≡ k
  all_same a b = λ n. record { supports = λ e. (a e ∙ sym (b e)) n; replicas = (limits_same n).replicas; keys = (limits_same n).keys; log_most = (limits_same n).log; waiting_most = (limits_same n).waiting }

-- what a call leaves and answers, by the rules
module _ (l : Limits) (r : Replica) (rest s m : List ℕ) (all : AllSupported l) (v : Valid l r) (t : Lent s) (image : m ≡ encode l r ++ rest) where
  outcome : Does l r rest s (encode l (after l r (read s)) ++ rest) (write_answer (answer l r (read s)))
  outcome = record { valid = valid_after l r (read s) v (read_is_readable s t.bytes t.few); mem = refl; says = refl }

  pub happens : Calls m s (encode l (after l r (read s)) ++ rest) (write_answer (answer l r (read s)))
  happens = record {
    right = λ k q tail all' u e.
        let same = sym image ∙ e in
        let D : Limits → Replica → List ℕ → Type 0 = λ x y z. Does x y z s (encode l (after l r (read s)) ++ rest) (write_answer (answer l r (read s))) in
        subst (λ x. D x q tail) (all_same l k r q rest tail v u same all all') (subst (λ y. D l y tail) (state_same l k r q rest tail v u same) (subst (D l r) (rest_same l k r q rest tail v u same) outcome));
    foreign = λ f. absurd (f (header_says l r m rest v image).1);
  }

-- OPENING
abbrev born : Limits → System
born l = record { memory = λ i. encode l (new_replica l i); made = []; told = [] }

begins : (l : Limits) → AllSupported l → InRange (code_limits l) → Started l (born l)
unfolding encode rows slots
begins l all few = record {
  supports = all;
  lent = λ i. replicate (words l) 0;
  opened = λ i h. (
    refl,
    record {
      room = record { limits = few; me = h; words = omega (arith, length-replicate {A = ℕ} (words l) 0) };
      valid = λ can. new_valid _ i few h;
      image = λ can. sym (ap (λ t. encode l (new_replica l i) ++ t) (drop_all (words l) (replicate (words l) 0) (omega (arith, length-replicate {A = ℕ} (words l) 0))) ∙ append-nil (encode l (new_replica l i)));
    },
  );
  nothing_made = refl;
  nothing_told = refl;
}

pub lives_happen : LivesHappen
lives_happen = record {
  begins = λ l all few. (born l, begins l all few, λ i h. encode_length l (new_replica l i) (new_valid l i few h).fits);
  goes_on = λ l w i s x h t.
      let f = run_follows l x.lived _ (started_follows l x.birth x.started) in
      let im = f.image i h in
      (_, (_, happens l _ im.rest s (w.memory i) f.supports im.valid t im.mem));
  one_way = λ l w i s m b m' b' x h c d.
      let f = run_follows l x.lived _ (started_follows l x.birth x.started) in
      let p = does l w _ f i h s m b c in
      let q = does l w _ f i h s m' b' d in
      (p.mem ∙ sym q.mem, p.says ∙ sym q.says);
}
