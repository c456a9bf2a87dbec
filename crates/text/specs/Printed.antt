-- The text of puts and answers. Definitions only.
use Rattle.std.specs.Prelude.{ℕ, List, [], ◌∷◌, ◌++◌, Some, None, vec_items, codes, decimal}
use Rattle.std.specs.List.{join_by}
use Rattle.words.specs.Text.{counts_text, value_text}
use Rattle.puts.specs.declared.event.Answer.TheVariants.{Refused, Puts, Value, Clock}
use Rattle.puts.specs.declared.event.Event.TheVariants.{Put as Put', Get, Came, Has, Tell}
use Rattle.text.specs.Event.{Put, Event, Answer}

-- a put: key, value, replica, and the counts of what it had seen
abbrev pub put_text : Put → List ℕ
put_text p = decimal p.key ++ (codes " " ++ (value_text (vec_items p.value) ++ (codes " " ++ (decimal p.from ++ counts_text (vec_items p.seen)))))

-- puts behind a space, with ` ; ` between two
abbrev pub puts_text : List Put → List ℕ
puts_text [] = []
puts_text (p ∷ ps) = codes " " ++ join_by put_text (codes " ; ") (p ∷ ps)

-- what happens at a replica
abbrev pub event_words : Event → List ℕ
event_words (Put' k v) = codes "put " ++ (decimal k ++ (codes " " ++ value_text (vec_items v)))
event_words (Get k) = codes "get " ++ decimal k
event_words (Came p) = codes "came " ++ put_text p
event_words (Has j c) = codes "has " ++ (decimal j ++ counts_text (vec_items c))
event_words Tell = codes "tell"

-- and at which: its line
abbrev pub event_text : ℕ → Event → List ℕ
event_text i e = decimal i ++ (codes " " ++ event_words e)

-- what stands behind ` -> `
abbrev pub answer_text : Answer → List ℕ
answer_text (Refused r) = codes "refused " ++ (decimal r.number ++ (codes " " ++ decimal r.place))
answer_text (Puts ps) = codes "puts" ++ puts_text (vec_items ps)
answer_text (Value None) = codes "none"
answer_text (Value (Some p)) = codes "value " ++ put_text p
answer_text (Clock c) = codes "clock" ++ counts_text (vec_items c)
