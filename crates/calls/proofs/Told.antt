-- Clocks that were told.
use Rattle.std.proofs.Common.{◌≡◌, ℕ, ◌<◌, ◌≤◌, Bool, true, false, ◌&&◌, ltb, length, sym, refl, ◌∙◌, subst, arith, ltb-true, le-leb}
use borrow.Author.Tests.{lt-leb}
use Rattle.model.specs.Limits.{Limits}
use Rattle.model.specs.Clock.{Clock, at, good_clock}
use Rattle.model.specs.Replica.{Replica, has, in_range, possible}
use Rattle.puts.specs.Values.{Small, clock_size, code_clock}
use Rattle.puts.specs.declared.Clock.{Clock as CodeClock}
use Rattle.puts.proofs.Padded.{get_or_pad}
use Rattle.memory.specs.State.{own_count}
use Rattle.memory.specs.Valid.{Valid}
use Rattle.memory.proofs.Sound.{clock_fits}

-- THE CLOCK THAT WAS TOLD
module _ (l : Limits) (r : Replica) (j : ℕ) (c : Clock) (own told me : ℕ) (k : CodeClock) (v : Valid l r) (is_own : own ≡ own_count r) (is_me : me ≡ r.delivery.me) (long : length c ≡ l.replicas) (e : k ≡ code_clock c) (is_told : told ≡ at k.counts me) where
  told_is : told ≡ at c r.delivery.me
  told_is =
      is_told ∙ (λ i. at (e i).counts (is_me i)) ∙ get_or_pad clock_size c r.delivery.me (subst (λ n. n ≤ clock_size) (sym long) v.fits.delivery.replicas)

  pub told_too_much : own < told → possible r.delivery (has j c) ≡ false
  unfolding possible
  told_too_much g = lt-leb (at c r.delivery.me) (own_count r) (omega (arith, told_is))

  pub told_enough : told ≤ own → possible r.delivery (has j c) ≡ true
  unfolding possible
  told_enough g = le-leb (at c r.delivery.me) (own_count r) (omega (arith, told_is))

-- two tests that hold
first_of : (a b : Bool) → (a && b) ≡ true → (a ≡ true) × (b ≡ true)
first_of true true e = (refl, refl)
first_of true false e = let z : ◌≡◌ {A = ℕ} 0 1 = cc in absurd (omega arith)
first_of false b e = let z : ◌≡◌ {A = ℕ} 0 1 = cc in absurd (omega arith)

-- what is in range, of a clock that was told
pub told_long : (l : Limits) (j : ℕ) (c : Clock) → in_range l (has j c) ≡ true → (j < l.replicas) × (length c ≡ l.replicas) × Small c
unfolding in_range
told_long l j c e =
    let t = first_of (ltb j l.replicas) (good_clock l c) e in
    let k = clock_fits l c t.1 in
    (ltb-true j l.replicas t.0, k.0, k.1)
