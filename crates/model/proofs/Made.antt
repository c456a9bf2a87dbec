-- The puts that were made: causally closed clocks, and the order of puts.
use Rattle.std.proofs.Common.{◌≡◌, ℕ, suc, pred, ◌<◌, ◌≤◌, true, ◌≢◌, ◌⊎◌, List, [], ◌∷◌, length, sym, refl, ap, ◌∙◌, subst, inl, inr, arith}
use Rattle.std.proofs.lemmas.Bool.Decides.{nat_tests}
use Rattle.std.proofs.lemmas.Bool.{cases_lt, cases_eq}
use Rattle.std.proofs.lemmas.List.{length-set}
use Rattle.model.specs.Lists.{In}
use Rattle.model.specs.Limits.{Limits, count_bound}
use Rattle.model.specs.Clock.{Clock, at, sum, tick, small, good_clock}
use Rattle.model.specs.Put.{Put, number, later, good_head}
use Rattle.model.proofs.Lists.{set_split}
use Rattle.model.proofs.Clocks.{Below, tick_up, tick_same, sum_lt, small_of}
use Rattle.model.proofs.Steps.{Had, Next}

module _ {B : Type 0} where
  -- A clock counts puts that were made, and with a put it has all that the put had seen.
  pub record Closed (l : Limits) (ms : List (Put B)) (c : Clock) : Type 0 where
    pub long : length c ≡ l.replicas
    pub deep : (p : Put B) → In p ms → Had c p → Below p.seen c
    pub real : (j n : ℕ) → n < at c j → (p : Put B) × In p ms × (p.from ≡ j) × (number p ≡ suc n)

  pub record Made (l : Limits) (ms : List (Put B)) : Type 0 where
    pub good : (p : Put B) → In p ms → good_head l p ≡ true
    pub one : (p q : Put B) → In p ms → In q ms → p.from ≡ q.from → number p ≡ number q → p ≡ q
    pub seen_closed : (p : Put B) → In p ms → Closed l ms p.seen

  pub from_in_range : (l : Limits) (ms : List (Put B)) → Made l ms → (p : Put B) → In p ms → p.from < l.replicas
  from_in_range l ms m p i = let g : good_head l p ≡ true = m.good p i in grind (arith, nat_tests)

  pub in_clock : (l : Limits) (ms : List (Put B)) (c : Clock) → Made l ms → Closed l ms c → (p : Put B) → In p ms → p.from < length c
  in_clock l ms c m f p i = subst (λ n. p.from < n) (sym f.long) (from_in_range l ms m p i)

  -- ORDER
  pub later_trans : (p q r : Put B) → later p q ≡ true → later q r ≡ true → later p r ≡ true
  later_trans p q r a b = grind (arith, nat_tests)

  pub later_not_both : (p q : Put B) → later p q ≡ true → later q p ≡ true → ⊥
  later_not_both p q a b = grind (arith, nat_tests)

  apart_later : (p q : Put B) → p.from ≢ q.from → (later p q ≡ true) ⊎ (later q p ≡ true)
  apart_later p q n = elim (cases_lt (sum q.seen) (sum p.seen)) [
    | inl a ↦ inl (grind (arith, nat_tests))
    | inr a ↦ elim (cases_lt (sum p.seen) (sum q.seen)) [
      | inl b ↦ inr (grind (arith, nat_tests))
      | inr b ↦ elim (cases_lt q.from p.from) [ inr c ↦ inr (grind (arith, nat_tests)) | inl c ↦ inl (grind (arith, nat_tests)) ]
    ]
  ]

  -- whoever had seen a put, and all that it had seen, is later
  pub more_later : (p q : Put B) → Below p.seen q.seen → Had q.seen p → later q p ≡ true
  more_later p q f h = let s : sum p.seen < sum q.seen = sum_lt p.seen q.seen p.from f h in grind (arith, nat_tests)

  pub seen_earlier : (l : Limits) (ms : List (Put B)) → Made l ms → (p q : Put B) → In p ms → In q ms → Had q.seen p → later q p ≡ true
  seen_earlier l ms m p q i j h = more_later p q ((m.seen_closed q j).deep p i h) h

  abbrev pub Compares : Put B → Put B → Type 0
  Compares p q = (p ≡ q) ⊎ ((later p q ≡ true) ⊎ (later q p ≡ true))

  abbrev pub Total : List (Put B) → Type 0
  Total ms = (p q : Put B) → In p ms → In q ms → Compares p q

  pub made_total : (l : Limits) (ms : List (Put B)) → Made l ms → Total ms
  made_total l ms m p q i j =
      elim (cases_eq p.from q.from) [
        | inr n ↦ inr (apart_later p q n)
        | inl t ↦ elim (cases_eq (number p) (number q)) [
          | inl e ↦ inl (m.one p q i j t e)
          | inr n ↦ elim (cases_lt (number q) (number p)) [
            | inr u ↦ inr (inr (seen_earlier l ms m p q i j (omega (arith, n, ap (at q.seen) t))))
            | inl u ↦ inr (inl (seen_earlier l ms m q p j i (omega (arith, ap (at p.seen) t))))
          ]
        ]
      ]

  -- A NEW PUT is had by no closed clock
  abbrev pub Fresh : List (Put B) → Put B → Type 0
  Fresh ms r = (q : Put B) → In q ms → q.from ≡ r.from → number q ≡ number r → ⊥

  pub fresh_not_had : (l : Limits) (ms : List (Put B)) (c : Clock) (r : Put B) → Closed l ms c → Fresh ms r → Had c r → ⊥
  fresh_not_had l ms c r f n h =
      let t : (p : Put B) × In p ms × (p.from ≡ r.from) × (number p ≡ number r) = f.real r.from (at r.seen r.from) h in
      n t.0 t.1 t.2 t.3

  -- so what a closed clock has of the puts with the new one, it had of those before
  pub had_before : (l : Limits) (ms : List (Put B)) (c : Clock) (r : Put B) → Closed l ms c → Fresh ms r → (p : Put B) → In p (r ∷ ms) → Had c p → In p ms
  had_before l ms c r f n p (inl e) h = absurd (fresh_not_had l ms c r f n (subst (Had c) e h))
  had_before l ms c r f n p (inr i) h = i

  pub closed_more : (l : Limits) (ms : List (Put B)) (c : Clock) (r : Put B) → Closed l ms c → Fresh ms r → Closed l (r ∷ ms) c
  closed_more l ms c r f n =
      record {
        long = f.long;
        deep = λ p i h. f.deep p (had_before l ms c r f n p i h) h;
        real = λ j k h. let t : (p : Put B) × In p ms × (p.from ≡ j) × (number p ≡ suc k) = f.real j k h in (t.0, inr t.1, t.2, t.3);
      }

  pub made_more : (l : Limits) (ms : List (Put B)) (r : Put B) → Made l ms → Fresh ms r → Closed l ms r.seen → good_head l r ≡ true → Made l (r ∷ ms)
  made_more l ms r m n f g = record { good = go; one = on; seen_closed = sc }
    where
      go : (p : Put B) → In p (r ∷ ms) → good_head l p ≡ true
      go p (inl e) = subst (λ z. good_head l z ≡ true) (sym e) g
      go p (inr i) = m.good p i

      on : (p q : Put B) → In p (r ∷ ms) → In q (r ∷ ms) → p.from ≡ q.from → number p ≡ number q → p ≡ q
      on p q (inl e) (inl d) x y = e ∙ sym d
      on p q (inl e) (inr j) x y = absurd (n q j (sym x ∙ ap (λ z. z.from) e) (sym y ∙ ap number e))
      on p q (inr i) (inl d) x y = absurd (n p i (x ∙ ap (λ z. z.from) d) (y ∙ ap number d))
      on p q (inr i) (inr j) x y = m.one p q i j x y

      sc : (p : Put B) → In p (r ∷ ms) → Closed l (r ∷ ms) p.seen
      sc p (inl e) = closed_more l ms p.seen r (subst (λ z. Closed l ms z.seen) (sym e) f) n
      sc p (inr i) = closed_more l ms p.seen r (m.seen_closed p i) n

  -- PUTS IN THE ORDER OF TAKING, the last first: all that one had seen comes before it; a new put changes nothing
  abbrev pub Ordered : List (Put B) → List (Put B) → Type 0
  Ordered ms [] = Unit {0}
  Ordered ms (p ∷ ts) = ((q : Put B) → In q ms → Had p.seen q → In q ts) × Ordered ms ts

  pub ordered_more : (l : Limits) (ms : List (Put B)) (r : Put B) → Made l ms → Fresh ms r → (ts : List (Put B)) → ((p : Put B) → In p ts → In p ms) → Ordered ms ts → Ordered (r ∷ ms) ts
  ordered_more l ms r m n [] s o = tt
  ordered_more l ms r m n (p ∷ ts) s o = (
    λ q j h. o.0 q (had_before l ms p.seen r (m.seen_closed p (s p (inl refl))) n q j h) h,
    ordered_more l ms r m n ts (λ q j. s q (inr j)) o.1,
  )

  -- A PUT IS TAKEN: it is had then, and else what was had before
  pub had_now : (l : Limits) (ms : List (Put B)) (c : Clock) (p : Put B) → Made l ms → Closed l ms c → In p ms → Next c p → Had (tick c p.from) p
  had_now l ms c p m f i x = omega (arith, x.0, tick_same c p.from (in_clock l ms c m f p i))

  pub had_then : (l : Limits) (ms : List (Put B)) → Made l ms → (c : Clock) (p q : Put B) → In p ms → In q ms → Next c p → Had (tick c p.from) q → (q ≡ p) ⊎ Had c q
  had_then l ms m c p q i j x =
      set_split (λ n. number q ≤ n → (q ≡ p) ⊎ Had c q) 0 c p.from q.from (suc (at c p.from))
      (λ e h. elim (cases_lt (at c q.from) (number q)) [ inr a ↦ inr a | inl a ↦ inl (m.one q p j i (sym e) (omega (arith, x.0, ap (at c) e))) ])
      (λ h. inr h)

  pub closed_take : (l : Limits) (ms : List (Put B)) → Made l ms → (c : Clock) (p : Put B) → Closed l ms c → In p ms → Next c p → Closed l ms (tick c p.from)
  closed_take l ms m c p f i x = record { long = length-set c p.from (suc (at c p.from)) ∙ f.long; deep = de; real = re }
    where
      de : (q : Put B) → In q ms → Had (tick c p.from) q → Below q.seen (tick c p.from)
      de q iq h j = elim (had_then l ms m c p q i iq x h) [
        | inl e ↦ omega (arith, tick_up c p.from j, x.1 j, ap (λ (z : Put B). at z.seen j) e)
        | inr o ↦ omega (arith, tick_up c p.from j, f.deep q iq o j)
      ]

      re : (j n : ℕ) → n < at (tick c p.from) j → (q : Put B) × In q ms × (q.from ≡ j) × (number q ≡ suc n)
      re j n =
          set_split (λ k. n < k → (q : Put B) × In q ms × (q.from ≡ j) × (number q ≡ suc n)) 0 c p.from j (suc (at c p.from))
          (λ e h. elim (cases_lt n (at c p.from)) [ inr a ↦ (p, i, e, omega (arith, x.0)) | inl a ↦ f.real j n (subst (λ z. n < at c z) e a) ])
          (f.real j n)

  -- counts stay small, since each stands for a put made
  pub closed_good : (l : Limits) (ms : List (Put B)) (c : Clock) → Made l ms → Closed l ms c → good_clock l c ≡ true
  closed_good l ms c m f =
      let s : small c ≡ true = small_of c lt in
      let e : length c ≡ l.replicas = f.long in
      grind (arith, nat_tests)
    where
      lt : (j : ℕ) → at c j < count_bound
      lt j = elim (cases_lt 0 (at c j)) [
        | inr a ↦ omega arith
        | inl a ↦
            (let t : (p : Put B) × In p ms × (p.from ≡ j) × (number p ≡ suc (pred (at c j))) = f.real j (pred (at c j)) (omega arith) in
            let g : good_head l t.0 ≡ true = m.good t.0 t.1 in
            let b : number t.0 < count_bound = grind (arith, nat_tests) in
            omega (arith, t.3))
      ]

  -- A REPLICA HAS ITS OWN PUTS: so no closed clock counts more of them
  abbrev pub Own : List (Put B) → ℕ → Clock → Type 0
  Own ms i c = (p : Put B) → In p ms → p.from ≡ i → number p ≤ at c i

  pub own_most : (l : Limits) (ms : List (Put B)) (i : ℕ) (c d : Clock) → Own ms i c → Closed l ms d → at d i ≤ at c i
  own_most l ms i c d o f = elim (cases_lt (at c i) (at d i)) [
    | inr a ↦ a
    | inl a ↦
        (let t : (p : Put B) × In p ms × (p.from ≡ i) × (number p ≡ suc (at c i)) = f.real i (at c i) a in
        omega (arith, o t.0 t.1 t.2, t.3))
  ]

  pub ready_is_others : (ms : List (Put B)) (i : ℕ) (c : Clock) (p : Put B) → Own ms i c → In p ms → Next c p → p.from ≢ i
  ready_is_others ms i c p o j x = λ e. omega (arith, o p j e, x.0, ap (at c) e)
