-- What delivery does, step by step: taking, settling, the queue and the log as lists.
use Rattle.std.proofs.Common.{◌≡◌, ℕ, zero, suc, ◌≤◌, true, false, cond, not, List, [], ◌∷◌, reverse, refl, subst, inl, inr, arith}
use Rattle.std.proofs.lemmas.Bool.Decides.{nat_tests}
use Rattle.std.proofs.lemmas.Bool.{both_ways, cond_both}
use Rattle.model.specs.Lists.{In}
use Rattle.model.specs.Limits.{Limits, reply_most}
use Rattle.model.specs.Clock.{Clock, at, below}
use Rattle.model.specs.Put.{Put, number, had}
use Rattle.model.specs.Delivery.{Delivery, ready, nothing_new, lacking, enqueued, Run, begin, take_one, first_ready, take_then, settle, deliver, stamped, reply}
use Rattle.model.proofs.Lists.{in_take, in_reversed, in_kept}
use Rattle.model.proofs.Clocks.{Below, below_at, at_below}

module _ {B : Type 0} where
  -- a put that a clock has; one that is the next of its replica there, and rests on what is there; one of the two
  abbrev pub Had : Clock → Put B → Type 0
  Had c p = number p ≤ at c p.from

  abbrev pub Next : Clock → Put B → Type 0
  Next c p = (number p ≡ suc (at c p.from)) × Below p.seen c

  pub next_of : (d : Delivery B) (p : Put B) → ready d p ≡ true → Next d.clock p
  next_of d p e = (grind (arith, nat_tests), below_at p.seen d.clock (grind arith))

  pub ready_of : (d : Delivery B) (p : Put B) → Next d.clock p → ready d p ≡ true
  ready_of d p x = let b : below p.seen d.clock ≡ true = at_below p.seen d.clock x.1 in let n : number p ≡ suc (at d.clock p.from) = x.0 in grind (arith, nat_tests)

  pub own_ready : (b : B) (d : Delivery B) → ready d (stamped b d) ≡ true
  own_ready b d = ready_of d (stamped b d) (refl, λ j. omega arith)

  -- the first that is ready: none, or one of them that is
  abbrev First : Delivery B → List (Put B) → List (Put B) → Type 0
  First d ws [] = (p : Put B) → In p ws → ready d p ≡ true → ⊥
  First d ws (p ∷ ps) = In p ws × (ready d p ≡ true)

  first_more : (d : Delivery B) (w : Put B) (ws ps : List (Put B)) → ready d w ≡ false → First d ws ps → First d (w ∷ ws) ps
  first_more d w ws [] n f = λ p i e. elim i [ inl q ↦ both_ways (ready d w) n (subst (λ z. ready d z ≡ true) q e) | inr j ↦ f p j e ]
  first_more d w ws (p ∷ ps) n f = (inr f.0, f.1)

  first_is : (d : Delivery B) (ws : List (Put B)) → First d ws (first_ready d ws)
  unfolding first_ready
  first_is d [] = λ p i e. i
  first_is d (w ∷ ws) = cond_both (ready d w) (w ∷ []) (first_ready d ws) (First d (w ∷ ws)) (λ e. (inl refl, e)) (λ e. first_more d w ws (first_ready d ws) e (first_is d ws))

  -- nothing that waits is ready
  abbrev pub Quiet : Delivery B → Type 0
  Quiet d = (p : Put B) → In p d.waiting → ready d p ≡ true → ⊥

  module _ (P : Run B → Type 0) where
    take_then_is : (f : Run B → Run B) (ps : List (Put B)) (m : Run B) → First m.now m.now.waiting ps →
        ((p : Put B) → In p m.now.waiting → ready m.now p ≡ true → P (f (take_one p m))) → (Quiet m.now → P m) → P (take_then f ps m)
    unfolding take_then
    take_then_is f [] m r s b = b r
    take_then_is f (p ∷ ps) m r s b = s p r.0 r.1

    -- one turn of settling: a ready put that waits is taken, or there is none
    pub settle_turn : (n : ℕ) (m : Run B) → ((p : Put B) → In p m.now.waiting → ready m.now p ≡ true → P (settle n (take_one p m))) → (Quiet m.now → P m) → P (settle (suc n) m)
    unfolding settle
    settle_turn n m s b = take_then_is (settle n) (first_ready m.now m.now.waiting) m (first_is m.now m.now.waiting) s b

    -- what each taking keeps, settling keeps
    pub settle_keeps : ((m : Run B) (p : Put B) → P m → In p m.now.waiting → ready m.now p ≡ true → P (take_one p m)) → (n : ℕ) (m : Run B) → P m → P (settle n m)
    unfolding settle
    settle_keeps s zero m b = b
    settle_keeps s (suc n) m b = settle_turn n m (λ p i e. settle_keeps s n (take_one p m) (s m p b i e)) (λ _. b)

    -- to show something of a delivery, show it of each way
    pub deliver_is : (l : Limits) (p : Put B) (d : Delivery B) → P (begin d) →
        (nothing_new d p ≡ false → ready d p ≡ true → P (settle l.waiting_most (take_one p (begin d)))) →
        (nothing_new d p ≡ false → ready d p ≡ false → P (begin (enqueued p d))) → P (deliver l p d)
    deliver_is l p d b s w =
        let now : Run B = settle l.waiting_most (take_one p (begin d)) in
        let held : Run B = begin (enqueued p d) in
        cond_both (nothing_new d p) (begin d) (cond (ready d p) now held) P (λ _. b) (λ f. cond_both (ready d p) now held P (s f) (w f))

  -- the reply is of the log
  pub in_reply : (c : Clock) (d : Delivery B) (p : Put B) → In p (reply c d) → In p d.log
  in_reply c d p i =
      elim (in_reversed d.log [] p (in_kept (λ q. not (had c q)) p (reverse d.log) (in_take reply_most (lacking c (reverse d.log)) p i)).0) [ inl j ↦ j | inr j ↦ absurd j ]
