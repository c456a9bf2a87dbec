-- What a replica answers can be carried by bytes.
use Rattle.std.proofs.Common.{◌≡◌, ℕ, zero, suc, ◌+◌, ◌<◌, ◌≤◌, Bool, true, cond, not, ◌&&◌, eqb, ltb, leb, List, [], ◌∷◌, length, get_or, set, replicate, sym, refl, ◌∙◌, subst, inl, inr, arith, length-set}
use lib.ListN.{length-replicate}
use Rattle.std.proofs.lemmas.Bool.{lt-ltb, ltb-true, leb-true, le-leb, eq-eqb, eqb-true, and_parts, and_from, cond_both}
use Rattle.model.specs.Lists.{In}
use Rattle.model.specs.Limits.{Limits, GoodLimits, count_bound, value_most}
use Rattle.model.specs.Clock.{Clock, at, small, good_clock, tick}
use Rattle.model.specs.Put.{Put, later, number, good_head, Body, text, key_of, value_of, good_body}
use Rattle.model.specs.Delivery.{Delivery, learned, all_have, Run, begin, take_one, stamped, reply}
use Rattle.model.specs.Store.{Store, shown, stand, stored_all}
use Rattle.model.specs.Replica.{Replica, new_replica, Event, put, get, came, has, tell, garbled, refused, in_range, log_room, event_number, Check, checks, first_failing, refusal, accepted, place, moves, moved, says, answer, after, replica}
use Rattle.model.specs.Program.{byte_bound, word_bound, all_below, readable, all_readable}
use Rattle.model.proofs.Lists.{set_split, get_or_either, in_append, in_kept}
use Rattle.model.proofs.Clocks.{small_of}
use Rattle.model.proofs.Steps.{next_of, settle_keeps, deliver_is, in_reply}
use Rattle.model.proofs.Replica.{Passed, passed}
use Rattle.wire.specs.Bytes.{write_body, write_put}
use Rattle.wire.specs.Answers.{readable_puts, readable_answer}
use Rattle.wire.specs.Theorems.{ReplicaAnswersReadBack}
use Rattle.wire.proofs.Views.{length_put}
use Rattle.wire.proofs.Puts.{answer_reads_back}

-- a put in range, whose value is bytes
abbrev Fine : Limits → Put Body → Type 0
Fine l p = ((good_body l p.body && good_head l p) ≡ true) × (all_below byte_bound (value_of p.body) ≡ true)

abbrev AllFine : Limits → List (Put Body) → Type 0
AllFine l ps = (p : Put Body) → In p ps → Fine l p

-- WHAT IS FINE CAN BE CARRIED
small_words : (c : Clock) → small c ≡ true → all_below word_bound c ≡ true
unfolding small all_below
small_words [] e = refl
small_words (n ∷ ns) e =
    let both = and_parts (ltb n count_bound) (small ns) e in
    let less = ltb-true n count_bound both.0 in
    and_from (ltb n word_bound) (all_below word_bound ns) (lt-ltb n word_bound (omega arith)) (small_words ns both.1)

length_text : (b : Body) → length (write_body b) ≡ 9 + length (value_of b)
length_text (text k v) = omega arith

module _ (can : ℕ → Bool) (l : Limits) (good : GoodLimits can l) where
  fine_readable : (p : Put Body) → Fine l p → (readable (came p) && ltb (length (write_put p)) word_bound) ≡ true
  unfolding readable
  fine_readable p f =
      let parts = and_parts (good_body l p.body) (good_head l p) f.0 in
      let body = and_parts (ltb (key_of p.body) l.keys) (leb (length (value_of p.body)) value_most) parts.0 in
      let front = and_parts (ltb p.from l.replicas) (good_clock l p.seen && ltb (number p) count_bound) parts.1 in
      let seen = and_parts (good_clock l p.seen) (ltb (number p) count_bound) front.1 in
      let clock = and_parts (eqb (length p.seen) l.replicas) (small p.seen) seen.0 in
      let key = ltb-true (key_of p.body) l.keys body.0 in
      let long = leb-true (length (value_of p.body)) value_most body.1 in
      let from = ltb-true p.from l.replicas front.0 in
      let counts = eqb-true (length p.seen) l.replicas clock.0 in
      let size = length_put p in
      let text_size = length_text p.body in
      let most = good.replicas.1 in
      let keys = good.keys.1 in
      and_from _ _
      (and_from _ _ (and_from _ _ (lt-ltb _ word_bound (omega arith)) f.1) (and_from _ _ (lt-ltb _ word_bound (omega arith)) (small_words p.seen clock.1)))
      (lt-ltb _ word_bound (omega arith))

  fine_puts : (ps : List (Put Body)) → AllFine l ps → readable_puts ps ≡ true
  unfolding readable_puts
  fine_puts [] f = refl
  fine_puts (p ∷ ps) f = and_from _ _ (fine_readable p (f p (inl refl))) (fine_puts ps (λ q i. f q (inr i)))

-- THE STATE of delivery, and of the store
pub record Carries (l : Limits) (d : Delivery Body) : Type 0 where
  pub me : d.me < l.replicas
  pub long : length d.clock ≡ l.replicas
  pub counts : (j : ℕ) → at d.clock j < count_bound
  pub log : AllFine l d.log
  pub waiting : AllFine l d.waiting

abbrev RunCarries : Limits → Run Body → Type 0
RunCarries l m = Carries l m.now × AllFine l m.taken

abbrev StoreCarries : Limits → Store → Type 0
StoreCarries l s = (k : ℕ) → AllFine l (shown s k) × (length (shown s k) ≤ 1)

zero_counts : (n j : ℕ) → get_or (replicate n 0) j 0 < count_bound
zero_counts zero j = omega arith
zero_counts (suc n) zero = omega arith
zero_counts (suc n) (suc j) = zero_counts n j

module _ (l : Limits) where
  clock_good : (d : Delivery Body) → Carries l d → good_clock l d.clock ≡ true
  clock_good d c = and_from _ _ (eq-eqb _ _ c.long) (small_of d.clock c.counts)

  take_carries : (m : Run Body) (p : Put Body) → RunCarries l m → Fine l p → number p ≡ suc (at m.now.clock p.from) → RunCarries l (take_one p m)
  take_carries m p (c, t) f e =
      let d : Delivery Body = m.now in
      let clock : Clock = tick d.clock p.from in
      let ks : List Clock = set d.known d.me clock in
      let front = and_parts (ltb p.from l.replicas) (good_clock l p.seen && ltb (number p) count_bound) (and_parts (good_body l p.body) (good_head l p) f.0).1 in
      let less = ltb-true (number p) count_bound (and_parts (good_clock l p.seen) (ltb (number p) count_bound) front.1).1 in
      let logged : AllFine l (cond (eqb p.from d.me) (p ∷ d.log) d.log) =
      cond_both (eqb p.from d.me) (p ∷ d.log) d.log (AllFine l) (λ _ q i. elim i [ inl h ↦ subst (Fine l) (sym h) f | inr j ↦ c.log q j ]) (λ _. c.log) in (
        record {
          me = c.me;
          long = length-set d.clock p.from _ ∙ c.long;
          counts = λ j. set_split (λ n. n < count_bound) 0 d.clock p.from j _ (λ _. omega arith) (c.counts j);
          log = λ q i. logged q (in_kept (λ x. not (all_have ks x)) q (cond (eqb p.from d.me) (p ∷ d.log) d.log) i).0;
          waiting = λ q i. c.waiting q (in_kept (λ x. not (leb (number x) (at clock x.from))) q d.waiting i).0;
        },
        λ q i. elim i [ inl h ↦ subst (Fine l) (sym h) f | inr j ↦ t q j ],
      )

  nothing_taken : AllFine l []
  nothing_taken q i = absurd i

  fine_own : (d : Delivery Body) (b : Body) → Carries l d → Passed l d (put b) → readable (put b) ≡ true → Fine l (stamped b d)
  unfolding in_range log_room readable
  fine_own d b c p e =
      let valid = (and_parts (l.supports (event_number (put b))) (good_body l b) p.is_valid).1 in
      let room = (and_parts (ltb (length d.log) l.log_most) (ltb (suc (at d.clock d.me)) count_bound) p.has_log_room).1 in
      (and_from _ _ valid (and_from _ _ (lt-ltb d.me l.replicas c.me) (and_from _ _ (clock_good d c) room)), (and_parts (ltb (key_of b) word_bound) (all_below byte_bound (value_of b)) e).1)

  fine_came : (d : Delivery Body) (p : Put Body) → Passed l d (came p) → readable (came p) ≡ true → Fine l p
  unfolding in_range readable
  fine_came d p q e =
      let body = (and_parts (ltb (key_of p.body) word_bound && all_below byte_bound (value_of p.body)) (ltb p.from word_bound && all_below word_bound p.seen) e).0 in
      ((and_parts (l.supports (event_number (came p))) (good_body l p.body && good_head l p) q.is_valid).1, (and_parts (ltb (key_of p.body) word_bound) (all_below byte_bound (value_of p.body)) body).1)

  -- each event that is accepted
  moves_carry : (d : Delivery Body) (e : Event) → Carries l d → Passed l d e → readable e ≡ true → RunCarries l (moves l d e)
  unfolding moves
  moves_carry d (put b) c p e = take_carries (begin d) (stamped b d) (c, nothing_taken) (fine_own d b c p e) refl
  moves_carry d (get k) c p e = (c, nothing_taken)
  moves_carry d (came q) c p e =
      let fine : Fine l q = fine_came d q p e in
      deliver_is (RunCarries l) l q d (c, nothing_taken)
      (λ _ r.
      settle_keeps (RunCarries l) (λ m x h i now. take_carries m x h (h.0.waiting x i) (next_of m.now x now).0) l.waiting_most (take_one q (begin d)) (take_carries (begin d) q (c, nothing_taken) fine (next_of d q r).0))
      (λ _ _. (
        record {
          me = c.me;
          long = c.long;
          counts = c.counts;
          log = c.log;
          waiting = λ x i. elim (in_append x d.waiting (q ∷ []) i) [ inl j ↦ c.waiting x j | inr j ↦ elim j [ inl h ↦ subst (Fine l) (sym h) fine | inr k ↦ absurd k ] ];
        },
        nothing_taken,
      ))
  moves_carry d (has j k) c p e =
      let ks : List Clock = (learned j k d).known in
      (record { me = c.me; long = c.long; counts = c.counts; log = λ q i. c.log q (in_kept (λ x. not (all_have ks x)) q d.log i).0; waiting = c.waiting }, nothing_taken)
  moves_carry d tell c p e = (c, nothing_taken)
  moves_carry d (garbled n) c p e = (c, nothing_taken)

  -- the store
  abbrev Slot : List (Put Body) → Type 0
  Slot qs = AllFine l qs × (length qs ≤ 1)

  slot_of : (p : Put Body) → Fine l p → Slot (p ∷ [])
  slot_of p f = (λ q i. elim i [ inl h ↦ subst (Fine l) (sym h) f | inr j ↦ absurd j ], omega arith)

  stand_slot : (p : Put Body) (qs : List (Put Body)) → Fine l p → Slot qs → Slot (stand p qs)
  unfolding stand
  stand_slot p [] f s = slot_of p f
  stand_slot p (q ∷ qs) f s = cond_both (later p q) (p ∷ []) (q ∷ []) Slot (λ _. slot_of p f) (λ _. slot_of q (s.0 q (inl refl)))

  stored_carries : (ps : List (Put Body)) (s : Store) → AllFine l ps → StoreCarries l s → StoreCarries l (stored_all ps s)
  unfolding stored_all
  stored_carries [] s f c = c
  stored_carries (p ∷ ps) s f c =
      let t : Store = stored_all ps s in
      let h : StoreCarries l t = stored_carries ps s (λ q i. f q (inr i)) c in
      λ k. set_split Slot [] t (key_of p.body) k _ (λ _. stand_slot p (shown t (key_of p.body)) (f p (inl refl)) (h (key_of p.body))) (h k)

  -- the whole replica
  abbrev ReplicaCarries : Replica → Type 0
  ReplicaCarries r = Carries l r.delivery × StoreCarries l r.store

  after_carries : (r : Replica) (e : Event) → ReplicaCarries r → readable e ≡ true → ReplicaCarries (after l r e)
  after_carries r e c h =
      cond_both (accepted l r e) (moved (moves l r.delivery e) r.store) r ReplicaCarries
      (λ t. let m = moves_carry r.delivery e c.0 (passed l r e (eqb-true (refusal l r e) 0 t)) h in (m.0, stored_carries (moves l r.delivery e).taken r.store m.1 c.1))
      (λ _. c)

  new_carries : (i : ℕ) → i < l.replicas → ReplicaCarries (new_replica l i)
  new_carries i b = (
    record {
      me = b;
      long = length-replicate l.replicas 0;
      counts = zero_counts l.replicas;
      log = nothing_taken;
      waiting = nothing_taken;
    },
    λ k. elim (get_or_either [] l.keys [] k) [ inl e ↦ subst Slot (sym e) (nothing_taken, omega arith) | inr e ↦ subst Slot (sym e) (nothing_taken, omega arith) ],
  )

  replica_carries : (i : ℕ) (es : List Event) → i < l.replicas → all_readable es ≡ true → ReplicaCarries (replica l i es)
  unfolding replica all_readable
  replica_carries i [] b h = new_carries i b
  replica_carries i (e ∷ es) b h =
      let both = and_parts (readable e) (all_readable es) h in
      after_carries (replica l i es) e (replica_carries i es b both.1) both.0

-- ITS ANSWERS
abbrev Five : List Check → Type 0
Five [] = Unit {0}
Five (c ∷ cs) = (c.refusal ≤ 5) × Five cs

failing_most : (cs : List Check) → Five cs → first_failing cs ≤ 5
unfolding first_failing
failing_most [] f = omega arith
failing_most (c ∷ cs) f = cond_both c.passes (first_failing cs) c.refusal (λ n. n ≤ 5) (λ _. failing_most cs f.1) (λ _. f.0)

refusal_most : (l : Limits) (r : Replica) (e : Event) → refusal l r e ≤ 5
refusal_most l r e = failing_most (checks l r.delivery e) (omega arith)

place_word : (e : Event) → readable e ≡ true → ltb (place e) word_bound ≡ true
unfolding place readable
place_word (put b) h = refl
place_word (get k) h = refl
place_word (came p) h = refl
place_word (has j c) h = refl
place_word tell h = refl
place_word (garbled n) h = h

module _ (can : ℕ → Bool) (l : Limits) (good : GoodLimits can l) (r : Replica) (c : ReplicaCarries l r) where
  says_readable : (e : Event) → Passed l r.delivery e → readable e ≡ true → readable_answer (says r e) ≡ true
  unfolding says readable_answer readable_puts
  says_readable (put b) p h = fine_puts can l good (stamped b r.delivery ∷ []) (slot_of l (stamped b r.delivery) (fine_own l r.delivery b c.0 p h)).0
  says_readable (get k) p h = and_from _ _ (le-leb _ 1 (c.1 k).1) (fine_puts can l good (shown r.store k) (c.1 k).0)
  says_readable (came q) p h = refl
  says_readable (has j k) p h = fine_puts can l good (reply k r.delivery) (λ q i. c.0.log q (in_reply k r.delivery q i))
  says_readable tell p h = small_words r.delivery.clock (small_of r.delivery.clock c.0.counts)
  says_readable (garbled n) p h = refl

  answer_readable : (e : Event) → readable e ≡ true → readable_answer (answer l r e) ≡ true
  unfolding readable_answer
  answer_readable e h =
      cond_both (accepted l r e) (says r e) (refused (refusal l r e) (place e)) (λ a. readable_answer a ≡ true) (λ t. says_readable e (passed l r e (eqb-true (refusal l r e) 0 t)) h)
      (λ _. let most = refusal_most l r e in and_from _ _ (lt-ltb (refusal l r e) word_bound (omega arith)) (place_word e h))

pub replica_answers_read_back : ReplicaAnswersReadBack
unfolding all_readable
replica_answers_read_back can l i es e good b h =
    let both = and_parts (readable e) (all_readable es) h in
    let fine = answer_readable can l good (replica l i es) (replica_carries l i es b both.1) e both.0 in
    (fine, answer_reads_back (answer l (replica l i es) e) fine)
