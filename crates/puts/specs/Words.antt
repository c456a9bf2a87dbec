-- A put in the words of a slot, head before body: form, from, seen; then key, length, value. Spare words are 0. Definitions only.
use Rattle.std.specs.Prelude.{ℕ, ◌+◌, ◌*◌, ◌/◌, ◌%◌, ◌^◌, cond, List, [], ◌∷◌, ◌++◌, map, take, drop, replicate, Some, None, Option, ◌==◌, slice_index}
use Rattle.std.specs.List.{range_with_len, flat_map}
use Rattle.model.specs.Put as model
use Rattle.puts.specs.declared.words.Head.{Head}
use Rattle.puts.specs.Values.{Put, clock_size, code_put, Fit}

-- THE LAYOUT OF A SLOT, here and nowhere else: how many words, and where each part begins; the form stands first
abbrev pub slot_size : ℕ
slot_size = 32

-- which replica made the put
abbrev pub from_place : ℕ
from_place = 1

-- the clock that it had
abbrev pub seen_place : ℕ
seen_place = 2

-- after two spare words, the key
abbrev pub key_place : ℕ
key_place = 20

-- how many bytes the value has
abbrev pub length_place : ℕ
length_place = 21

-- the value; two spare words follow
abbrev pub value_place : ℕ
value_place = 22

-- so many words hold a value
abbrev pub value_words : ℕ
value_words = 8

-- the form of a slot with a put; that of an empty one is 0
abbrev pub put_form : ℕ
put_form = 1

-- eight bytes from place i on, as one word, the first the least
abbrev pub word : List ℕ → ℕ → ℕ
word bs i =
    slice_index bs i + slice_index bs (i + 1) * 256 + slice_index bs (i + 2) * 65536 + slice_index bs (i + 3) * 16777216 + slice_index bs (i + 4) * 4294967296
    + slice_index bs (i + 5) * 1099511627776 + slice_index bs (i + 6) * 281474976710656 + slice_index bs (i + 7) * 72057594037927936

-- the k-th word of some bytes
unfoldable pub pack_at : List ℕ → ℕ → ℕ
pack_at bs k = word bs (8 * k)

-- the words of sixty-four bytes
unfoldable pub packed : List ℕ → List ℕ
packed bs = map (pack_at bs) (range_with_len 0 value_words)

-- the eight bytes of a word
abbrev pub eight_of : ℕ → List ℕ
eight_of w =
    (w % 256) ∷ (w / 256 % 256) ∷ (w / 65536 % 256) ∷ (w / 16777216 % 256) ∷ (w / 4294967296 % 256) ∷ (w / 1099511627776 % 256)
    ∷ (w / 281474976710656 % 256) ∷ (w / 72057594037927936 % 256) ∷ []

-- the bytes of some words
unfoldable pub unpacked : List ℕ → List ℕ
unpacked ws = flat_map eight_of ws

-- the words of a put
unfoldable pub put_words : Put → List ℕ
put_words p = (put_form ∷ p.from ∷ []) ++ (p.seen.counts ++ ((0 ∷ 0 ∷ p.key ∷ p.value.len ∷ []) ++ (packed p.value.bytes ++ (0 ∷ 0 ∷ []))))

-- what the words of a slot hold: a put, read whole
abbrev pub put_in : List ℕ → Put
put_in ws =
    record {
      from = slice_index ws from_place;
      seen = record { counts = take clock_size (drop seen_place ws) };
      key = slice_index ws key_place;
      value = record { len = slice_index ws length_place; bytes = unpacked (take value_words (drop value_place ws)) };
    }

-- or its head alone
abbrev pub head_in : List ℕ → Head
head_in ws = record { from = slice_index ws from_place; number = (slice_index (take clock_size (drop seen_place ws)) (slice_index ws from_place) + 1) % 2 ^ 64 }

-- if there is one
abbrev pub if_put : {A : Type 0} → List ℕ → A → Option A
if_put ws x = cond (slice_index ws 0 == put_form) (Some x) None

-- A SLOT: none or one put
abbrev pub Slot : Type 0
Slot = List (model.Put model.Body)

-- the words of a slot
unfoldable pub slot_words : Slot → List ℕ
slot_words [] = replicate slot_size 0
slot_words (q ∷ qs) = put_words (code_put q)

-- what is read of it
unfoldable pub code_slot : Slot → Option Put
code_slot [] = None
code_slot (q ∷ qs) = Some (code_put q)

-- what stands in it is held whole
unfoldable pub FitSlot : Slot → Type 0
FitSlot [] = Unit {0}
FitSlot (q ∷ qs) = Fit q

-- what is read of its head
unfoldable pub code_head : Slot → Option Head
code_head [] = None
code_head (q ∷ qs) = Some (record { from = q.from; number = model.number q })
