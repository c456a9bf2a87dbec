-- Which events a script can hold, and the text of their parts. Definitions only.
use Rattle.std.specs.Prelude.{ℕ, List, ◌++◌, vec_items, codes, decimal, Vec}
use Rattle.std.specs.declared.alloc.Global.{Global}
use Rattle.std.specs.List.{AllByRecursion}
use Rattle.puts.specs.declared.event.Event.TheVariants.{Put as Put', Get, Came, Has, Tell}
use Rattle.text.specs.Event.{Put, Event}
use Rattle.words.specs.Text.{Bytes, Word, value_text}

-- a key and a value
abbrev pub keyed : ℕ × Vec ℕ Global → List ℕ
keyed x = decimal x.0 ++ (codes " " ++ value_text (vec_items x.1))

abbrev pub CanPair : ℕ × Vec ℕ Global → Type 0
CanPair x = Word x.0 × Bytes (vec_items x.1)

-- two numbers
abbrev pub two_text : ℕ × ℕ → List ℕ
two_text x = decimal x.0 ++ (codes " " ++ decimal x.1)

abbrev pub CanTwo : ℕ × ℕ → Type 0
CanTwo x = Word x.0 × Word x.1

-- numbers below 2^64, values of bytes
abbrev pub CanPut : Put → Type 0
CanPut p = Word p.key × Bytes (vec_items p.value) × Word p.from × AllByRecursion Word (vec_items p.seen)

abbrev pub CanEvent : Event → Type 0
CanEvent (Put' k v) = Word k × Bytes (vec_items v)
CanEvent (Get k) = Word k
CanEvent (Came p) = CanPut p
CanEvent (Has j c) = Word j × AllByRecursion Word (vec_items c)
CanEvent Tell = Unit {0}
