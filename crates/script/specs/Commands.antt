-- The commands of a script and their text. Definitions only.
use Rattle.std.specs.Prelude.{ℕ, List, [], ◌∷◌, ◌++◌, vec_items, codes, decimal}
use Rattle.text.specs.Printed.{event_words}
use Rattle.words.specs.Text.{Bytes, Word, numbers_text, value_text}
use Rattle.script.specs.Events.{CanEvent, CanTwo, two_text}
use Rattle.script.specs.declared.Command.{Command}
use Rattle.script.specs.declared.Command.TheVariants.{Open, At, Round}
use Rattle.script.specs.declared.Deed.{Deed}
use Rattle.script.specs.declared.Deed.TheVariants.{Event, Bytes as Bytes', From, Asks}
use Rattle.memory.specs.declared.Limits.{Limits}

-- limits as text; any that can be written, in range or not
abbrev pub limits_text : Limits → List ℕ
limits_text l = numbers_text (l.replicas ∷ l.keys ∷ l.log ∷ l.waiting ∷ [])

abbrev pub CanLimits : Limits → Type 0
CanLimits l = Word l.replicas × Word l.keys × Word l.log × Word l.waiting

-- what is done at a replica
abbrev pub deed_words : Deed → List ℕ
deed_words (Event e) = event_words e
deed_words (Bytes' b) = codes "bytes " ++ value_text (vec_items b)
deed_words (From j n) = codes "from " ++ two_text (j, n)
deed_words (Asks j) = codes "asks " ++ decimal j

abbrev pub CanDeed : Deed → Type 0
CanDeed (Event e) = CanEvent e
CanDeed (Bytes' b) = Bytes (vec_items b)
CanDeed (From j n) = CanTwo (j, n)
CanDeed (Asks j) = Word j

-- a line
abbrev pub command_text : Command → List ℕ
command_text (Open l) = codes "open " ++ limits_text l
command_text (At i d) = decimal i ++ (codes " " ++ deed_words d)
command_text Round = codes "round"

abbrev pub CanCommand : Command → Type 0
CanCommand (Open l) = CanLimits l
CanCommand (At i d) = Word i × CanDeed d
CanCommand Round = Unit {0}
