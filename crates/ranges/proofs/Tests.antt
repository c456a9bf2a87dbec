-- Tests that stand one behind the other, and the number of a put by its clock.
use Rattle.std.proofs.Common.{◌≡◌, ℕ, suc, ◌<◌, ◌≤◌, Bool, true, false, ◌&&◌, eqb, ltb, length, sym, refl, ◌∙◌, arith, lt-ltb, eqb-true}
use borrow.Author.Tests.{clash}
use Rattle.std.proofs.lemmas.Bool.Decides.{nat_tests}
use Rattle.model.specs.Clock.{Clock, at, good_clock, small}
use Rattle.model.specs.Limits.{Limits, count_bound}
use Rattle.model.specs.Put.{Put, Body, good_body, good_head, number}
use Rattle.model.specs.Replica.{came, in_range}
use Rattle.puts.specs.Values.{pad}
use Rattle.ranges.specs.Checked.{Handed}
use Rattle.std.specs.Bool.{then_some}
use Rattle.puts.proofs.Padded.{get_or_pad}

-- a value is handed on where the test holds
pub handed : {A : Type 0} {b t : Bool} {x y : A} → b ≡ t → y ≡ x → Handed b x (then_some t y)
handed {t = true} e f = (e, f)
handed {t = false} e f = e

pub first_fails : (a b : Bool) → a ≡ false → (a && b) ≡ false
first_fails false b e = refl
first_fails true b e = absurd (clash (sym e))

pub rest_fails : (a b : Bool) → b ≡ false → (a && b) ≡ false
rest_fails false b e = refl
rest_fails true b e = e

pub both_hold : (a b : Bool) → a ≡ true → b ≡ true → (a && b) ≡ true
both_hold true b e f = f
both_hold false b e f = absurd (clash e)

first_of : (a b : Bool) → (a && b) ≡ true → a ≡ true
first_of true b e = refl
first_of false b e = absurd (clash e)

pub clock_long : (l : Limits) (c : Clock) → good_clock l c ≡ true → length c ≡ l.replicas
clock_long l c h = eqb-true (length c) l.replicas (first_of (eqb (length c) l.replicas) (small c) h)

-- the number is one more than the count, which sixteen counts hold too
module _ (c : Clock) (i n : ℕ) (long : length c ≤ 16) (e : n ≡ at (pad 16 c) i) where
  pub number_out : 4294967295 ≤ n → ltb (suc (at c i)) count_bound ≡ false
  number_out h = let z = e ∙ get_or_pad 16 c i long in over (at c i) (omega (arith, z))
    where
      over : (k : ℕ) → 4294967295 ≤ k → ltb (suc k) count_bound ≡ false
      over k h = grind (arith, nat_tests)

  pub number_in : n < 4294967295 → ltb (suc (at c i)) count_bound ≡ true
  number_in h = let z = e ∙ get_or_pad 16 c i long in lt-ltb (suc (at c i)) count_bound (omega (arith, z))

-- a put that came: the first test that fails, or all hold
module _ (l : Limits) (p : Put Body) where
  pub body_fails : good_body l p.body ≡ false → in_range l (came p) ≡ false
  unfolding in_range
  body_fails e = first_fails (good_body l p.body) (good_head l p) e

  pub from_fails : ltb p.from l.replicas ≡ false → in_range l (came p) ≡ false
  unfolding in_range
  from_fails e = rest_fails (good_body l p.body) (good_head l p) (first_fails (ltb p.from l.replicas) (good_clock l p.seen && ltb (number p) count_bound) e)

  pub seen_fails : good_clock l p.seen ≡ false → in_range l (came p) ≡ false
  unfolding in_range
  seen_fails e =
      rest_fails (good_body l p.body) (good_head l p)
      (rest_fails (ltb p.from l.replicas) (good_clock l p.seen && ltb (number p) count_bound) (first_fails (good_clock l p.seen) (ltb (number p) count_bound) e))

  pub number_fails : ltb (number p) count_bound ≡ false → in_range l (came p) ≡ false
  unfolding in_range
  number_fails e =
      rest_fails (good_body l p.body) (good_head l p)
      (rest_fails (ltb p.from l.replicas) (good_clock l p.seen && ltb (number p) count_bound) (rest_fails (good_clock l p.seen) (ltb (number p) count_bound) e))

  pub all_hold : good_body l p.body ≡ true → ltb p.from l.replicas ≡ true → good_clock l p.seen ≡ true → ltb (number p) count_bound ≡ true → in_range l (came p) ≡ true
  unfolding in_range
  all_hold a b c d =
      both_hold (good_body l p.body) (good_head l p) a
      (both_hold (ltb p.from l.replicas) (good_clock l p.seen && ltb (number p) count_bound) b (both_hold (good_clock l p.seen) (ltb (number p) count_bound) c d))
