-- Events by value, and what a range check hands on. Definitions only.
use Rattle.std.specs.Prelude.{◌≡◌, Bool, true, false, Some, None, Option}
use Rattle.model.specs.Put.{key_of, value_of}
use Rattle.model.specs.Replica as model
use Rattle.puts.specs.Values.{code_clock, code_text, code_put}
use Rattle.puts.specs.declared.Clock.{Clock}
use Rattle.puts.specs.declared.Text.{Text}
use Rattle.puts.specs.declared.event.Event.{Event}
use Rattle.puts.specs.declared.event.Event.TheVariants.{Put as Put', Get, Came, Has, Tell}

-- a value is handed on just where the test holds
abbrev pub Handed : {A : Type 0} → Bool → A → Option A → Type 0
Handed b x None = b ≡ false
Handed b x (Some y) = (b ≡ true) × (y ≡ x)

-- an event by value
abbrev pub Checked : Type 0
Checked = Event Clock Text

-- an event of the model, by value; bytes that are no event never come so far
abbrev pub code_event : model.Event → Checked
code_event (model.put b) = Put' (key_of b) (code_text (value_of b))
code_event (model.get k) = Get k
code_event (model.came p) = Came (code_put p)
code_event (model.has j c) = Has j (code_clock c)
code_event model.tell = Tell
code_event (model.garbled n) = Tell
