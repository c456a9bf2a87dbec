-- A program that opens its memory, and where each event does what the rules say, is right after any events: by induction over them.
use Rattle.std.proofs.Common.{◌≡◌, ℕ, ◌<◌, Bool, true, ◌&&◌, List, [], ◌∷◌, ◌++◌, length, Ok, Err, Result, sym, refl, ap, ◌∙◌, arith}
use Rattle.std.proofs.lemmas.Bool.{lt-ltb, and_parts}
use Rattle.std.proofs.lemmas.List.{append-nil, drop_all}
use Rattle.std.specs.List.{AllByRecursion}
use Rattle.model.specs.Limits.{Limits, GoodLimits}
use Rattle.model.specs.Program.{Program, memory, readable, all_readable, all_below, word_bound, AnswersRight, RefusalKeepsMemory, MemoryBounded}
use Rattle.model.specs.Replica.{Replica, Event, new_replica, replica}
use Rattle.model.proofs.Replica.{refusal_changes_nothing}
use Rattle.memory.specs.Layout.{InRange, Room, code_limits, total}
use Rattle.memory.specs.Image.{encode}
use Rattle.memory.specs.Valid.{Valid}
use Rattle.memory.specs.Laws.{Opened, Opening}
use Rattle.memory.specs.Running.{Opens, Stepped}
use Rattle.memory.specs.declared.Layout.{Layout}
use Rattle.memory.specs.declared.OutOfRange.{OutOfRange}
use Rattle.memory.proofs.Images.{encode_length}
use Rattle.memory.proofs.Sound.{words_fit}

-- the memory is the image of a valid state, and nothing beyond it
pub record Holding (l : Limits) (r : Replica) (m : List ℕ) : Type 0 where
  pub valid : Valid l r
  pub mem : m ≡ encode l r ++ []

-- after any events, one event more does what the rules say
abbrev pub Next : (ℕ → Bool) → Program → Type 0
Next can f = (l : Limits) (i : ℕ) (es : List Event) (e : Event) → GoodLimits can l → i < l.replicas → all_readable (e ∷ es) ≡ true →
    Holding l (replica l i es) (memory f l i es) → Stepped l (replica l i es) e [] (f.called (memory f l i es) e) (f.answers (memory f l i es) e)

-- opening with room is no refusal
opens_with : (x : Result Layout OutOfRange) (l : Limits) (i : ℕ) (before m : List ℕ) → Room (code_limits l) i before → Opening (code_limits l) i before m x → Opened (code_limits l) i before m
opens_with (Ok a) l i before m room o = o.1
opens_with (Err e) l i before m room o = absurd (o.0 room)

-- each below a bound, by the test
below_all : (b : ℕ) (xs : List ℕ) → AllByRecursion (λ w. w < b) xs → all_below b xs ≡ true
unfolding all_below
below_all b [] h = refl
below_all b (x ∷ xs) h = ap (λ t. t && all_below b xs) (lt-ltb x b h.0) ∙ below_all b xs h.1

-- each word of the memory is one
pub all_words : (l : Limits) (r : Replica) (m : List ℕ) → Holding l r m → all_below word_bound m ≡ true
all_words l r m h = ap (all_below word_bound) (h.mem ∙ append-nil (encode l r)) ∙ below_all word_bound (encode l r) (words_fit l r h.valid)

-- as the rules say, after any events
held : (can : ℕ → Bool) (f : Program) → Opens f → Next can f → (l : Limits) (i : ℕ) → GoodLimits can l → i < l.replicas →
    (es : List Event) → all_readable es ≡ true → Holding l (replica l i es) (memory f l i es)
unfolding all_readable memory replica
held can f opens next l i good here [] h =
    let ranges : InRange (code_limits l) = record { replicas = good.replicas; keys = good.keys; log = good.log_most; waiting = good.waiting_most } in
    let room : Room (code_limits l) i (opens.lent l i) = record { limits = ranges; me = here; words = omega (arith, opens.enough l i ranges) } in
    let o = opens_with (opens.opened_as l i) l i (opens.lent l i) (f.opened l i) room (opens.opening l i) in
    record { valid = o.valid l.supports; mem = o.image l.supports ∙ ap (λ t. encode l (new_replica l i) ++ t) (drop_all (total (code_limits l)) (opens.lent l i) (omega (arith, opens.enough l i ranges))) }
held can f opens next l i good here (e ∷ es) h =
    let s = next l i es e good here h (held can f opens next l i good here es (and_parts (readable e) (all_readable es) h).1) in
    record { valid = s.valid; mem = s.mem }

-- the state before the last of some events
before : (can : ℕ → Bool) (f : Program) → Opens f → Next can f → (l : Limits) (i : ℕ) → GoodLimits can l → i < l.replicas →
    (es : List Event) (e : Event) → all_readable (e ∷ es) ≡ true → Holding l (replica l i es) (memory f l i es)
unfolding all_readable
before can f opens next l i good here es e h = held can f opens next l i good here es (and_parts (readable e) (all_readable es) h).1

-- THE THEOREMS
pub right : (can : ℕ → Bool) (f : Program) → Opens f → Next can f → AnswersRight can f
unfolding AnswersRight
right can f opens next l i es e good here h = (next l i es e good here h (before can f opens next l i good here es e h)).says

pub kept : (can : ℕ → Bool) (f : Program) → Opens f → Next can f → RefusalKeepsMemory can f
unfolding RefusalKeepsMemory
kept can f opens next l i es e good here h bad =
    let b = before can f opens next l i good here es e h in
    (next l i es e good here h b).mem ∙ ap (λ r. encode l r ++ []) (refusal_changes_nothing l (replica l i es) e bad) ∙ sym b.mem

pub within : (can : ℕ → Bool) (f : Program) → Opens f → Next can f → MemoryBounded can f
unfolding MemoryBounded
within can f opens next l i es good here h =
    let now = held can f opens next l i good here es h in
    let size = ap length (now.mem ∙ append-nil (encode l (replica l i es))) ∙ encode_length l (replica l i es) now.valid.fits in
    (omega (arith, size), all_words l (replica l i es) (memory f l i es) now)
