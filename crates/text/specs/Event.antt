-- Puts, events and answers as a script has them. Definitions only.
use Rattle.std.specs.Prelude.{ℕ, Vec}
use Rattle.std.specs.declared.alloc.Global.{Global}
use Rattle.puts.specs.declared.event.Put.{Put as PutOf}
use Rattle.puts.specs.declared.event.Event.{Event as EventOf}
use Rattle.puts.specs.declared.event.Answer.{Answer as AnswerOf}

-- clocks and values, both as vectors
abbrev pub Numbers : Type 0
Numbers = Vec ℕ Global

abbrev pub Put : Type 0
Put = PutOf Numbers Numbers

abbrev pub Event : Type 0
Event = EventOf Numbers Numbers

abbrev pub Answer : Type 0
Answer = AnswerOf Numbers Numbers (Vec Put Global)
