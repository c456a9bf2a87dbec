-- What an answer of the code says. Definitions only.
use Rattle.std.specs.Prelude.{ℕ, List, [], ◌∷◌, Some, None, Option, Result}
use Rattle.model.specs.Put as model
use Rattle.model.specs.Replica.{Answer as ModelAnswer}
use Rattle.puts.specs.Values.{Put}
use Rattle.calls.specs.Answered.{one_put, says_with}
use Rattle.calls.specs.declared.Answer.{Answer as AnswerOf}
use Rattle.calls.specs.declared.Reason.{Reason}

-- an answer whose reply was read
abbrev pub Answer : Type 0
Answer = AnswerOf (List (Option Put))

-- those of some puts that are there
abbrev pub some_puts : ℕ → List (Option Put) → List (model.Put model.Body)
some_puts n [] = []
some_puts n (Some p ∷ ps) = one_put n p ∷ some_puts n ps
some_puts n (None ∷ ps) = some_puts n ps

-- the number and the values of each answer, for n replicas
abbrev pub says_in : ℕ → Result Answer Reason → ModelAnswer
says_in n a = says_with (some_puts n) n a
