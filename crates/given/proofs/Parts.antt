-- The flat definitions part by part: lists, clocks and puts are those of the model.
use Rattle.std.proofs.Common.{◌≡◌, ℕ, zero, suc, ◌+◌, Bool, true, false, cond, not, ◌&&◌, eqb, ltb, leb, List, [], ◌∷◌, map, get_or, take, set, replicate, refl, ap, ◌∙◌, arith}
use mathlib.Core.List.{reverse_aux}
use Rattle.std.proofs.lemmas.Bool.Decides.{nat_tests}
use Rattle.model.specs.Limits.{count_bound}
use Rattle.model.specs.Clock.{Clock, sum, below, join, tick, small}
use Rattle.model.specs.Put.{Put, number, later, had, same_put, Body}
use Rattle.model.specs.Delivery.{Delivery, ready, is_in, lacking, all_have, pruned, first_ready}
use Rattle.model.specs.Store.{stand, of_key, latest}
use Rattle.given.specs.Translation.{lift, lower}
use Rattle.given.specs.Replica as f
use Rattle.given.specs.Cluster as g

-- LISTS
pub pick_is : {A : Type 0} (b : Bool) (x y : A) → f.pick b x y ≡ cond b x y
unfolding f.pick
pick_is true x y = refl
pick_is false x y = refl

pub many_is : {A : Type 0} (n : ℕ) (a : A) → f.many n a ≡ replicate n a
unfolding f.many
many_is zero a = refl
many_is (suc n) a = ap (λ xs. a ∷ xs) (many_is n a)

pub nth_is : {A : Type 0} (d : A) (xs : List A) (n : ℕ) → f.nth d xs n ≡ get_or xs n d
unfolding f.nth
nth_is d [] n = refl
nth_is d (x ∷ xs) zero = refl
nth_is d (x ∷ xs) (suc n) = nth_is d xs n

pub set_is : {A : Type 0} (xs : List A) (n : ℕ) (a : A) → f.set_at xs n a ≡ set xs n a
unfolding f.set_at
set_is [] n a = refl
set_is (x ∷ xs) zero a = refl
set_is (x ∷ xs) (suc n) a = ap (λ ys. x ∷ ys) (set_is xs n a)

pub take_is : {A : Type 0} (n : ℕ) (xs : List A) → f.take n xs ≡ take n xs
unfolding f.take
take_is zero xs = refl
take_is (suc n) [] = refl
take_is (suc n) (x ∷ xs) = ap (λ ys. x ∷ ys) (take_is n xs)

-- CLOCKS
pub sum_is : (c : Clock) → f.sum c ≡ sum c
unfolding f.sum sum
sum_is [] = refl
sum_is (n ∷ c) = ap (λ k. n + k) (sum_is c)

pub below_is : (c d : Clock) → f.no_more c d ≡ below c d
unfolding f.no_more below
below_is [] d = refl
below_is (x ∷ c) [] = ap (λ b. eqb x 0 && b) (below_is c [])
below_is (x ∷ c) (y ∷ d) = ap (λ b. leb x y && b) (below_is c d)

pub join_is : (c d : Clock) → f.most c d ≡ join c d
unfolding f.most join
join_is [] d = refl
join_is (x ∷ c) [] = ap (λ z. x ∷ z) (join_is c [])
join_is (x ∷ c) (y ∷ d) = cc (pick_is (leb x y) y x, join_is c d)

pub small_is : (c : Clock) → f.counts c ≡ small c
unfolding f.counts small
small_is [] = refl
small_is (n ∷ c) = ap (λ b. ltb n count_bound && b) (small_is c)

pub tick_is : (c : Clock) (i : ℕ) → f.plus_one c i ≡ tick c i
tick_is c i = set_is c i (suc (f.at c i)) ∙ ap (λ n. set c i (suc n)) (nth_is 0 c i)

-- PUTS
pub lower_lift : (ps : List f.Put) → map lower (map lift ps) ≡ ps
lower_lift [] = refl
lower_lift (p ∷ ps) = ap (λ qs. p ∷ qs) (lower_lift ps)

pub number_is : (p : f.Put) → f.number p ≡ number (lift p)
number_is p = ap suc (nth_is 0 p.seen p.from)

pub had_is : (c : Clock) (p : f.Put) → f.had c p ≡ had c (lift p)
had_is c p = cc (number_is p, nth_is 0 c p.from)

pub later_is : (p q : f.Put) → f.later p q ≡ later (lift p) (lift q)
later_is p q = let a : f.sum p.seen ≡ sum p.seen = sum_is p.seen in let b : f.sum q.seen ≡ sum q.seen = sum_is q.seen in grind (arith, nat_tests)

pub same_is : (p q : f.Put) → f.same_put p q ≡ same_put (lift p) (lift q)
same_is p q = cc (number_is p, number_is q)

pub is_in_is : (p : f.Put) (ps : List f.Put) → f.is_in p ps ≡ is_in (lift p) (map lift ps)
unfolding f.is_in is_in
is_in_is p [] = refl
is_in_is p (q ∷ ps) = cc (same_is p q, is_in_is p ps)

pub all_have_is : (cs : List Clock) (p : f.Put) → f.all_have cs p ≡ all_have cs (lift p)
unfolding f.all_have all_have
all_have_is [] p = refl
all_have_is (c ∷ cs) p = cc (had_is c p, all_have_is cs p)

pub ready_is : (d : Delivery Body) (p : f.Put) → f.next_one d.clock p ≡ ready d (lift p)
ready_is d p = cc (number_is p, nth_is 0 d.clock p.from, below_is p.seen d.clock)

-- LISTS OF PUTS. One that is left out if a test passes
left_out : (b t : Bool) (p : f.Put) (xs : List f.Put) (ys : List (Put Body)) → b ≡ t → map lift xs ≡ ys → map lift (f.pick b xs (p ∷ xs)) ≡ cond (not t) (lift p ∷ ys) ys
unfolding f.pick
left_out b true p xs ys e h = ap (λ z. map lift (f.pick z xs (p ∷ xs))) e ∙ h
left_out b false p xs ys e h = ap (λ z. map lift (f.pick z xs (p ∷ xs))) e ∙ ap (λ z. lift p ∷ z) h

pub lacking_is : (c : Clock) (ps : List f.Put) → map lift (f.not_had c ps) ≡ lacking c (map lift ps)
unfolding f.not_had
lacking_is c [] = refl
lacking_is c (p ∷ ps) = left_out (f.had c p) (had c (lift p)) p (f.not_had c ps) (lacking c (map lift ps)) (had_is c p) (lacking_is c ps)

pub pruned_is : (cs : List Clock) (ps : List f.Put) → map lift (f.still_needed cs ps) ≡ pruned cs (map lift ps)
unfolding f.still_needed
pruned_is cs [] = refl
pruned_is cs (p ∷ ps) = left_out (f.all_have cs p) (all_have cs (lift p)) p (f.still_needed cs ps) (pruned cs (map lift ps)) (all_have_is cs p) (pruned_is cs ps)

-- a choice of two lists
pub lift_pick : (b t : Bool) (xs ys : List f.Put) → b ≡ t → map lift (f.pick b xs ys) ≡ cond t (map lift xs) (map lift ys)
unfolding f.pick
lift_pick b true xs ys e = ap (λ z. map lift (f.pick z xs ys)) e
lift_pick b false xs ys e = ap (λ z. map lift (f.pick z xs ys)) e

pub first_is : (d : Delivery Body) (ps : List f.Put) → map lift (f.first_ready d.clock ps) ≡ first_ready d (map lift ps)
unfolding f.first_ready first_ready
first_is d [] = refl
first_is d (p ∷ ps) =
    lift_pick (f.next_one d.clock p) (ready d (lift p)) (p ∷ []) (f.first_ready d.clock ps) (ready_is d p)
    ∙ ap (λ z. cond (ready d (lift p)) (lift p ∷ []) z) (first_is d ps)

pub reversed_is : (ps acc : List f.Put) → map lift (f.backward ps acc) ≡ reverse_aux (map lift ps) (map lift acc)
unfolding f.backward
reversed_is [] acc = refl
reversed_is (p ∷ ps) acc = reversed_is ps (p ∷ acc)

pub stand_is : (p : f.Put) (qs : List f.Put) → map lift (f.better p qs) ≡ stand (lift p) (map lift qs)
unfolding f.better stand
stand_is p [] = refl
stand_is p (q ∷ qs) = lift_pick (f.later p q) (later (lift p) (lift q)) (p ∷ []) (q ∷ []) (later_is p q)

pub latest_is : (ps : List f.Put) → map lift (g.latest ps) ≡ latest (map lift ps)
unfolding g.latest latest
latest_is [] = refl
latest_is (p ∷ ps) = stand_is p (g.latest ps) ∙ ap (stand (lift p)) (latest_is ps)

pub of_key_is : (k : ℕ) (c : Clock) (ps : List f.Put) → map lift (g.of_key k c ps) ≡ of_key k c (map lift ps)
unfolding g.of_key
of_key_is k c [] = refl
of_key_is k c (p ∷ ps) =
    let t : Bool = eqb p.key k && had c (lift p) in
    lift_pick (eqb p.key k && f.had c p) t (p ∷ g.of_key k c ps) (g.of_key k c ps) (cc (had_is c p))
    ∙ ap (λ z. cond t (lift p ∷ z) z) (of_key_is k c ps)
