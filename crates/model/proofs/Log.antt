-- The log of a replica: its own puts that somebody may lack; and what is known of the others.
use Rattle.std.proofs.Common.{◌≡◌, ℕ, zero, suc, pred, ◌+◌, ◌<◌, ◌≤◌, Bool, true, cond, not, eqb, ◌≢◌, ◌⊎◌, List, [], ◌∷◌, reverse, length, get_or, take, set, sym, refl, ap, ◌∙◌, subst, inl, inr, arith}
use mathlib.Core.List.{reverse_aux}
use Rattle.std.proofs.lemmas.Bool.{leb-true, eqb-true, eqb-false, le-leb, lt-leb, cases_Bool, not-false, cond-true, cond-false, cond_both, not_from_true, not_from_false}
use Rattle.std.proofs.lemmas.List.{length-set}
use Rattle.model.specs.Lists.{In}
use Rattle.model.specs.Limits.{Limits, reply_most}
use Rattle.model.specs.Clock.{Clock, at, join, tick}
use Rattle.model.specs.Put.{Put, number, had}
use Rattle.model.specs.Delivery.{Delivery, lacking, all_have, pruned, reply}
use Rattle.model.proofs.Lists.{set_split, in_kept, kept_in}
use Rattle.model.proofs.Clocks.{Below, tick_same, tick_other, join_split}
use Rattle.model.proofs.Steps.{Had, Next}
use Rattle.model.proofs.Made.{Closed, Made, Fresh, had_before, had_then}

-- What replica i, whose clock is c, knows of each: no more than that one has. cs are the others' clocks.
pub record Knows (l : Limits) (cs : ℕ → Clock) (i : ℕ) (c : Clock) (ks : List Clock) : Type 0 where
  pub long : length ks ≡ l.replicas
  pub of_me : Below (get_or ks i []) c
  pub of_other : (j : ℕ) → j < l.replicas → i ≢ j → Below (get_or ks j []) (cs j)

pub knows_take : (l : Limits) (cs : ℕ → Clock) (i : ℕ) (c d : Clock) (ks : List Clock) → Below c d → Knows l cs i c ks → Knows l cs i d (set ks i d)
knows_take l cs i c d ks up k =
    record {
      long = length-set ks i d ∙ k.long;
      of_me = λ q. set_split (λ z. at z q ≤ at d q) [] ks i i d (λ _. omega arith) (omega (arith, k.of_me q, up q));
      of_other = λ j b n q. set_split (λ z. at z q ≤ at (cs j) q) [] ks i j d (λ e. absurd (n e)) (k.of_other j b n q);
    }

-- what replica j told is no more than it has
abbrev pub TrueClaim : (ℕ → Clock) → ℕ → Clock → ℕ → Clock → Type 0
TrueClaim cs i c j d = (i ≡ j → Below d c) × (i ≢ j → Below d (cs j))

pub knows_learn : (l : Limits) (cs : ℕ → Clock) (i : ℕ) (c : Clock) (ks : List Clock) (j : ℕ) (d : Clock) → TrueClaim cs i c j d → Knows l cs i c ks →
    Knows l cs i c (set ks j (join (get_or ks j []) d))
knows_learn l cs i c ks j d t k =
    record {
      long = length-set ks j m ∙ k.long;
      of_me = λ q. set_split (λ z. at z q ≤ at c q) [] ks j i m (λ e. join_split (λ n. n ≤ at c q) (get_or ks j []) d q (rw e (k.of_me q)) (t.0 (sym e) q)) (k.of_me q);
      of_other = λ n b ne q. set_split (λ z. at z q ≤ at (cs n) q) [] ks j n m
          (λ e. join_split (λ x. x ≤ at (cs n) q) (get_or ks j []) d q (rw e (k.of_other n b ne q)) (rw (← e) (t.1 (λ u. ne (u ∙ e)) q)))
          (k.of_other n b ne q);
    }
  where
    m : Clock
    m = join (get_or ks j []) d

-- a row that grows leaves the others
pub row_up : (ks : List Clock) (i : ℕ) (d : Clock) → Below (get_or ks i []) d → (j : ℕ) → Below (get_or ks j []) (get_or (set ks i d) j [])
row_up ks i d up j q = set_split (λ z. at (get_or ks j []) q ≤ at z q) [] ks i j d (λ e. rw (← e) (up q)) (omega arith)

module _ {B : Type 0} where
  -- numbers go down by one, from n
  abbrev pub Down : ℕ → List (Put B) → Type 0
  Down n [] = Unit {0}
  Down n (p ∷ ps) = (number p ≡ n) × Down (at p.seen p.from) ps

  abbrev pub AllKnown : Limits → List Clock → Put B → Type 0
  AllKnown l ks p = (j : ℕ) → j < l.replicas → Had (get_or ks j []) p

  -- the last own puts without a gap; what is had of its own and is not there, all are known to have
  pub record Log (l : Limits) (ms : List (Put B)) (i : ℕ) (ks : List Clock) (c : Clock) (ps : List (Put B)) : Type 0 where
    pub own : (p : Put B) → In p ps → In p ms × (p.from ≡ i)
    pub down : Down (at c i) ps
    pub logged : (p : Put B) → In p ms → p.from ≡ i → Had c p → In p ps ⊎ AllKnown l ks p

  pub down_in : (n : ℕ) (ps : List (Put B)) (p : Put B) → Down n ps → In p ps → n < number p + length ps
  down_in n [] p d i = absurd i
  down_in n (x ∷ ps) p d (inl e) = omega (arith, d.0, ap number e)
  down_in n (x ∷ ps) p d (inr j) = let r : at x.seen x.from < number p + length ps = down_in (at x.seen x.from) ps p d.1 j in omega (arith, d.0)

  -- PRUNING
  all_have_at : (ks : List Clock) (p : Put B) → all_have ks p ≡ true → (j : ℕ) → j < length ks → Had (get_or ks j []) p
  unfolding all_have
  all_have_at [] p e j b = absurd (omega arith)
  all_have_at (k ∷ ks) p e zero b = leb-true (number p) (at k p.from) (grind arith)
  all_have_at (k ∷ ks) p e (suc j) b = all_have_at ks p (grind arith) j (omega arith)

  all_have_less : (ks : List Clock) (p q : Put B) → all_have ks p ≡ true → q.from ≡ p.from → number q ≤ number p → all_have ks q ≡ true
  unfolding all_have
  all_have_less [] p q e f h = refl
  all_have_less (k ∷ ks) p q e f h =
      let a : Had k p = leb-true (number p) (at k p.from) (grind arith) in
      let b : had k q ≡ true = le-leb (number q) (at k q.from) (omega (arith, ap (at k) f)) in
      let r : all_have ks q ≡ true = all_have_less ks p q (grind arith) f h in
      grind arith

  abbrev Of : ℕ → List (Put B) → Type 0
  Of i ps = (p : Put B) → In p ps → p.from ≡ i

  -- puts of replica i, with numbers that go down
  module _ (ks : List Clock) (i : ℕ) where
    abbrev Needed : Put B → Bool
    Needed p = not (all_have ks p)

    -- below one that all have, all have all: so pruning leaves no gap
    pruned_none : (ps : List (Put B)) (x : Put B) (n : ℕ) → Of i ps → x.from ≡ i → n ≤ number x → all_have ks x ≡ true → Down n ps → pruned ks ps ≡ []
    pruned_none [] x n f g h e d = refl
    pruned_none (p ∷ ps) x n f g h e d =
        cond-false (Needed p) (p ∷ pruned ks ps) (pruned ks ps) (not_from_true (all_have ks p) (all_have_less ks x p e (f p (inl refl) ∙ sym g) (omega (arith, d.0))))
        ∙ pruned_none ps x (at p.seen p.from) (λ q j. f q (inr j)) g (omega (arith, d.0)) e d.1

    down_pruned : (ps : List (Put B)) (n : ℕ) → Of i ps → Down n ps → Down n (pruned ks ps)
    down_pruned [] n f d = tt
    down_pruned (p ∷ ps) n f d =
        cond_both (Needed p) (p ∷ pruned ks ps) (pruned ks ps) (Down n)
        (λ _. (d.0, down_pruned ps (at p.seen p.from) (λ q j. f q (inr j)) d.1))
        (λ t. subst (Down n) (sym (pruned_none ps p (at p.seen p.from) (λ q j. f q (inr j)) (f p (inl refl)) (omega arith) (not-false (all_have ks p) t) d.1)) tt)

    pruned_or : (ps : List (Put B)) (p : Put B) → In p ps → In p (pruned ks ps) ⊎ (all_have ks p ≡ true)
    pruned_or ps p j = elim (cases_Bool (all_have ks p)) [ inl t ↦ inr t | inr t ↦ inl (kept_in Needed p ps j (not_from_false (all_have ks p) t)) ]

  -- WHAT KEEPS THE LOG: pruning, knowing more, a put made elsewhere or not yet taken, a put taken
  module _ (l : Limits) (ms : List (Put B)) (i : ℕ) where
    pub log_pruned : (ks : List Clock) (c : Clock) (ps : List (Put B)) → length ks ≡ l.replicas → Log l ms i ks c ps → Log l ms i ks c (pruned ks ps)
    log_pruned ks c ps e g =
        record {
          own = λ p j. g.own p (in_kept (Needed ks i) p ps j).0;
          down = down_pruned ks i ps (at c i) (λ p j. (g.own p j).1) g.down;
          logged = λ p j f h. elim (g.logged p j f h) [
            | inl a ↦ elim (pruned_or ks i ps p a) [ inl b ↦ inl b | inr b ↦ inr (λ k bk. all_have_at ks p b k (subst (λ z. k < z) (sym e) bk)) ]
            | inr a ↦ inr a
          ];
        }

    pub log_known : (ks js : List Clock) (c : Clock) (ps : List (Put B)) → ((j : ℕ) → Below (get_or ks j []) (get_or js j [])) → Log l ms i ks c ps → Log l ms i js c ps
    log_known ks js c ps up g =
        record { own = g.own; down = g.down; logged = λ p j f h. elim (g.logged p j f h) [ inl a ↦ inl a | inr a ↦ inr (λ k b. omega (arith, a k b, up k p.from)) ] }

    pub log_more : (ks : List Clock) (c : Clock) (ps : List (Put B)) (r : Put B) → Closed l ms c → Fresh ms r → Log l ms i ks c ps → Log l (r ∷ ms) i ks c ps
    log_more ks c ps r f n g =
        record { own = λ p j. (inr (g.own p j).0, (g.own p j).1); down = g.down; logged = λ p j e h. g.logged p (had_before l ms c r f n p j h) e h }

    pub log_take : (ks : List Clock) (c : Clock) (ps : List (Put B)) (p : Put B) → Made l ms → In p ms → p.from < length c → Next c p → Log l ms i ks c ps →
        Log l ms i ks (tick c p.from) (cond (eqb p.from i) (p ∷ ps) ps)
    log_take ks c ps p m ip b x g =
        cond_both (eqb p.from i) (p ∷ ps) ps (Log l ms i ks (tick c p.from))
        (λ t.
        let e : p.from ≡ i = eqb-true p.from i t in
        record {
          own = λ q j. elim j [ inl d ↦ (subst (λ z. In z ms) (sym d) ip, ap (λ z. z.from) d ∙ e) | inr k ↦ g.own q k ];
          down = (
            subst (λ z. number p ≡ at (tick c p.from) z) e (omega (arith, x.0, tick_same c p.from b)),
            subst (λ n. Down n ps) (omega (arith, x.0, ap (at c) e)) g.down,
          );
          logged = λ q j f h. elim (had_then l ms m c p q ip j x h) [
            | inl d ↦ inl (inl d)
            | inr o ↦ elim (g.logged q j f o) [ inl a ↦ inl (inr a) | inr a ↦ inr a ]
          ];
        })
        (λ t.
        let n : p.from ≢ i = eqb-false p.from i t in
        record {
          own = g.own;
          down = subst (λ n. Down n ps) (sym (tick_other c p.from i n)) g.down;
          logged = λ q j f h. elim (had_then l ms m c p q ip j x h) [ inl d ↦ absurd (n (sym (ap (λ z. z.from) d) ∙ f)) | inr o ↦ g.logged q j f o ];
        })

  -- THE REPLY begins with the next that is lacking
  module _ (c : Clock) (i : ℕ) where
    abbrev Lacks : Put B → Bool
    Lacks p = not (had c p)

    reversed_had : (ps acc : List (Put B)) (n : ℕ) → Of i ps → Down n ps → n ≤ at c i → lacking c (reverse_aux ps acc) ≡ lacking c acc
    reversed_had [] acc n f d h = refl
    reversed_had (p ∷ ps) acc n f d h =
        reversed_had ps (p ∷ acc) (at p.seen p.from) (λ q j. f q (inr j)) d.1 (omega (arith, d.0))
        ∙ cond-false (Lacks p) (p ∷ lacking c acc) (lacking c acc) (not_from_true (had c p) (le-leb (number p) (at c p.from) (omega (arith, d.0, ap (at c) (f p (inl refl))))))

    reversed_next : (ps acc : List (Put B)) (n : ℕ) (p : Put B) → Of i ps → Down n ps → In p ps → number p ≡ suc (at c i) → (rest : List (Put B)) × (lacking c (reverse_aux ps acc) ≡ p ∷ rest)
    reversed_next [] acc n p f d j e = absurd j
    reversed_next (x ∷ ps) acc n p f d (inl q) e = (
      lacking c acc,
      (reversed_had ps (x ∷ acc) (at x.seen x.from) (λ q j. f q (inr j)) d.1 (omega (arith, e, ap number q))
          ∙ cond-true (Lacks x) (x ∷ lacking c acc) (lacking c acc)
          (not_from_false (had c x) (lt-leb (number x) (at c x.from) (omega (arith, e, ap number q, ap (at c) (f x (inl refl)))))))
          ∙ ap (λ z. z ∷ lacking c acc) (sym q),
    )
    reversed_next (x ∷ ps) acc n p f d (inr j) e = reversed_next ps (x ∷ acc) (at x.seen x.from) p (λ q k. f q (inr k)) d.1 j e

  pub reply_next : (l : Limits) (ms : List (Put B)) (d : Delivery B) (ks : List Clock) (e c : Clock) (p : Put B) → Log l ms p.from ks e d.log → In p d.log → number p ≡ suc (at c p.from) →
      (rest : List (Put B)) × (reply c d ≡ p ∷ rest)
  reply_next l ms d ks e c p g i n =
      let t : (rest : List (Put B)) × (lacking c (reverse d.log) ≡ p ∷ rest) = reversed_next c p.from d.log [] (at e p.from) p (λ q j. (g.own q j).1) g.down i n in
      (take (pred reply_most) t.0, ap (take reply_most) t.1)
