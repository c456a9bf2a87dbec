-- What the model asks of a program is what the flat form asks of it.
use Rattle.std.proofs.Common.{◌≡◌, ℕ, ◌+◌, ◌*◌, ◌≤◌, Bool, true, false, ◌&&◌, eqb, ltb, List, [], ◌∷◌, map, length, sym, refl, ap, ◌∙◌, arith}
use Rattle.model.specs.Limits.{GoodLimits}
use Rattle.model.specs.Replica.{refusal, answer, after, replica}
use Rattle.model.specs.Program.{Program, memory, byte_bound, word_bound, all_below, readable, all_readable, AnswersRight, RefusalKeepsMemory, MemoryBounded}
use Rattle.given.specs.Translation.{limits, up, event, lowered, flat}
use Rattle.given.proofs.Simulation.{lowered_lifted, refusal_is, answer_is, after_is, new_is}
use Rattle.given.specs.Replica as f
use Rattle.given.specs.Cluster as g
use Rattle.given.specs.Statements as s

module _ (a : Program) (l : f.Limits) (i : ℕ) where
  memory_is : (es : List f.Event) → s.memory (flat a) l i es ≡ memory a (limits l) i (map event es)
  unfolding s.memory memory
  memory_is [] = refl
  memory_is (e ∷ es) = ap (λ m. a.called m (event e)) (memory_is es)

  replica_is : (es : List f.Event) → up (s.replica l i es) ≡ replica (limits l) i (map event es)
  unfolding s.replica replica
  replica_is [] = new_is l i
  replica_is (e ∷ es) = after_is l (s.replica l i es) e ∙ ap (λ r. after (limits l) r (event e)) (replica_is es)

bytes_is : (xs : List ℕ) → s.bytes xs ≡ all_below byte_bound xs
unfolding s.bytes all_below
bytes_is [] = refl
bytes_is (x ∷ xs) = ap (λ b. ltb x byte_bound && b) (bytes_is xs)

eights_is : (xs : List ℕ) → s.eights xs ≡ all_below word_bound xs
unfolding s.eights all_below
eights_is [] = refl
eights_is (x ∷ xs) = ap (λ b. ltb x word_bound && b) (eights_is xs)

below_same : (n : ℕ) (xs : List ℕ) → s.all_below n xs ≡ all_below n xs
unfolding s.all_below all_below
below_same n [] = refl
below_same n (x ∷ xs) = ap (λ b. ltb x n && b) (below_same n xs)

readable_is : (e : f.Event) → s.readable e ≡ readable (event e)
unfolding s.readable readable
readable_is (f.put k v) = cc (bytes_is v)
readable_is (f.get k) = refl
readable_is (f.came p) = cc (bytes_is p.value, eights_is p.seen)
readable_is (f.has i c) = cc (eights_is c)
readable_is f.tell = refl
readable_is (f.garbled n) = refl

all_readable_is : (es : List f.Event) → s.all_readable es ≡ all_readable (map event es)
unfolding s.all_readable all_readable
all_readable_is [] = refl
all_readable_is (e ∷ es) = cc (readable_is e, all_readable_is es)

good_is : (can : ℕ → Bool) (l : f.Limits) → s.GoodLimits can l → GoodLimits can (limits l)
good_is can l g = record { replicas = (g.0, g.1); keys = (g.2, g.3); log_most = (g.4, g.5); waiting_most = g.6; supports = g.7 }

pub answers_right : (can : ℕ → Bool) (a : Program) → AnswersRight can a → s.AnswersRight can (flat a)
unfolding AnswersRight
answers_right can a right l i es e good b read =
    ap lowered (ap (λ m. a.answers m (event e)) (memory_is a l i es)
    ∙ (right (limits l) i (map event es) (event e) (good_is can l good) b (sym (all_readable_is (e ∷ es)) ∙ read)
    ∙ (ap (λ r. answer (limits l) r (event e)) (sym (replica_is a l i es)) ∙ sym (answer_is l (s.replica l i es) e))))
    ∙ lowered_lifted (f.answer l (s.replica l i es) e)

pub refusal_keeps_memory : (can : ℕ → Bool) (a : Program) → RefusalKeepsMemory can a → s.RefusalKeepsMemory can (flat a)
unfolding RefusalKeepsMemory
refusal_keeps_memory can a keeps l i es e good b read r =
    ap (λ m. a.called m (event e)) (memory_is a l i es)
    ∙ (keeps (limits l) i (map event es) (event e) (good_is can l good) b (sym (all_readable_is (e ∷ es)) ∙ read)
    (omega (arith, refusal_is l (s.replica l i es) e, ap (λ r. refusal (limits l) r (event e)) (replica_is a l i es))) ∙ sym (memory_is a l i es))

pub memory_bounded : (can : ℕ → Bool) (a : Program) → MemoryBounded can a → s.MemoryBounded can (flat a)
unfolding MemoryBounded
memory_bounded can a bounded l i es good b read =
    let m : List ℕ = memory a (limits l) i (map event es) in
    let t : (length m ≤ 32 * (l.keys + (l.log_most + l.waiting_most)) + 512) × (all_below word_bound m ≡ true) =
    bounded (limits l) i (map event es) (good_is can l good) b (sym (all_readable_is es) ∙ read) in
    (omega (arith, t.0, ap length (memory_is a l i es)), (below_same word_bound (s.memory (flat a) l i es) ∙ ap (all_below word_bound) (memory_is a l i es)) ∙ t.1)

-- WITHOUT GET nothing is shown: so ShowsLatest needs that it is supported
pub without_get : (can : ℕ → Bool) → can 1 ≡ false → s.ShowsLatest can → ⊥
unfolding f.pick f.event_number f.refusal_by f.good_fields f.place g.replica_at g.all_new g.of_key g.latest
without_get can n all =
    let l : f.Limits = record { supports = can; replicas = 1; keys = 1; log_most = 1; waiting_most = 0 } in
    let h : f.Replica = g.replica_at l 0 (g.new_cluster l).replicas in
    let r : f.refusal l h (f.get 0) ≡ 2 = ap (λ b. f.pick (b && ltb 0 1) 0 2) n in
    let a : f.answer l h (f.get 0) ≡ f.refused 2 0 = ap (λ k. f.pick (eqb k 0) (f.says l h (f.get 0)) (f.refused k 0)) r in
    let v : f.answer l h (f.get 0) ≡ f.value (g.latest (g.of_key 0 (s.clock_of l (g.new_cluster l) 0) [])) =
    all l (g.new_cluster l) 0 0 (omega arith, omega arith, omega arith, omega arith, omega arith, omega arith, omega arith, λ k. refl) g.new (omega arith) (omega arith) in
    let z : ◌≡◌ {A = ℕ} 0 1 = cc in
    omega arith
