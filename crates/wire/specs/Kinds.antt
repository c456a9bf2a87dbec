-- The numbers of the kinds of events and answers. Definitions only.
use Rattle.std.specs.Prelude.{◌≡◌, ℕ, ◌<◌, Result, MatchResult}
use Rattle.wire.specs.declared.kind.EventKind.{EventKind}
use Rattle.wire.specs.declared.kind.EventKind.TheVariants.{Put, Get, Came, Has, Tell}
use Rattle.wire.specs.declared.kind.AnswerKind.{AnswerKind}
use Rattle.wire.specs.declared.kind.AnswerKind.TheVariants.{Refused, Puts, Value, Clock}
use Rattle.wire.specs.declared.kind.UnknownKind.{UnknownKind}

abbrev pub event_number : EventKind → ℕ
event_number Put = 0
event_number Get = 1
event_number Came = 2
event_number Has = 3
event_number Tell = 4

abbrev pub answer_number : AnswerKind → ℕ
answer_number Refused = 0
answer_number Puts = 1
answer_number Value = 2
answer_number Clock = 3

-- the kind with this number, or no kind has it
abbrev pub EventDecoded : ℕ → Result EventKind UnknownKind → Type 0
EventDecoded n r = MatchResult r (λ k. event_number k ≡ n) (λ e. (e.0 ≡ n) × (4 < n))

abbrev pub AnswerDecoded : ℕ → Result AnswerKind UnknownKind → Type 0
AnswerDecoded n r = MatchResult r (λ k. answer_number k ≡ n) (λ e. (e.0 ≡ n) × (3 < n))
