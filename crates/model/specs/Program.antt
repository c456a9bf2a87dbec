-- What is asked of a program of one replica. Definitions only.
use Rattle.std.specs.Prelude.{◌≡◌, ℕ, ◌+◌, ◌*◌, ◌<◌, ◌≤◌, Bool, true, ◌&&◌, List, [], ◌∷◌, length, nat_lt}
use Rattle.model.specs.Limits.{Limits, GoodLimits}
use Rattle.model.specs.Put.{Body, key_of, value_of}
use Rattle.model.specs.Replica.{Event, put, get, came, has, tell, garbled, Answer, refusal, answer, replica}

-- its memory, as numbers: what opening leaves there, what a call leaves there, and what the call answers
pub record Program : Type 0 where
  pub opened : Limits → ℕ → List ℕ
  pub called : List ℕ → Event → List ℕ
  pub answers : List ℕ → Event → Answer

-- after some events, the last first
unfoldable pub memory : Program → Limits → ℕ → List Event → List ℕ
memory f l i [] = f.opened l i
memory f l i (e ∷ es) = f.called (memory f l i es) e

-- a byte, and a number of eight bytes, are below these
abbrev pub byte_bound : ℕ
byte_bound = 256

abbrev pub word_bound : ℕ
word_bound = 18446744073709551616

-- each number of a list is below b
unfoldable pub all_below : ℕ → List ℕ → Bool
all_below b [] = true
all_below b (x ∷ xs) = nat_lt x b && all_below b xs

-- a body that its bytes can carry
abbrev pub readable_body : Body → Bool
readable_body b = nat_lt (key_of b) word_bound && all_below byte_bound (value_of b)

-- events that their bytes can carry
unfoldable pub readable : Event → Bool
readable (put b) = readable_body b
readable (get k) = nat_lt k word_bound
readable (came p) = readable_body p.body && (nat_lt p.from word_bound && all_below word_bound p.seen)
readable (has j c) = nat_lt j word_bound && all_below word_bound c
readable tell = true
readable (garbled n) = nat_lt n word_bound

-- each of some events is readable
unfoldable pub all_readable : List Event → Bool
all_readable [] = true
all_readable (e ∷ es) = readable e && all_readable es

-- after any readable events the program answers what the definitions say
unfoldable pub AnswersRight : (ℕ → Bool) → Program → Type 0
AnswersRight can f =
    (l : Limits) (i : ℕ) (es : List Event) (e : Event) → GoodLimits can l → i < l.replicas → all_readable (e ∷ es) ≡ true →
    f.answers (memory f l i es) e ≡ answer l (replica l i es) e

-- a refused event leaves the memory as it was
unfoldable pub RefusalKeepsMemory : (ℕ → Bool) → Program → Type 0
RefusalKeepsMemory can f =
    (l : Limits) (i : ℕ) (es : List Event) (e : Event) → GoodLimits can l → i < l.replicas → all_readable (e ∷ es) ≡ true → 0 < refusal l (replica l i es) e →
    f.called (memory f l i es) e ≡ memory f l i es

-- memory is bounded by the limits
unfoldable pub MemoryBounded : (ℕ → Bool) → Program → Type 0
MemoryBounded can f =
    (l : Limits) (i : ℕ) (es : List Event) → GoodLimits can l → i < l.replicas → all_readable es ≡ true →
    (length (memory f l i es) ≤ 32 * (l.keys + (l.log_most + l.waiting_most)) + 512) × (all_below word_bound (memory f l i es) ≡ true)
