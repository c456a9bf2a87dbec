-- What a call by bytes does: an event's bytes in, its answer's bytes out. Definitions only.
use Rattle.std.specs.Prelude.{◌≡◌, ℕ, ◌<◌, ◌≤◌, List, ◌++◌, length, take, drop, Option, MatchOption, Err, Result, MatchResult}
use Rattle.model.specs.Limits.{Limits}
use Rattle.model.specs.Replica.{Replica, Event, refused, answer, after}
use Rattle.memory.specs.Layout.{Room, limits_at, me_at}
use Rattle.memory.specs.Image.{encode}
use Rattle.memory.specs.Valid.{Valid}
use Rattle.wire.specs.Bytes.{write_answer}
use Rattle.wire.specs.Reading.{read}
use Rattle.ranges.specs.Checked.{Checked}
use Rattle.logs.specs.State.{Holds, Laid}
use Rattle.logs.specs.declared.place.Place.{Place}
use Rattle.calls.specs.Answered.{AllSupported, code_answer, number_of, place_of}
use Rattle.calls.specs.Entered.{Comes}
use Rattle.calls.specs.declared.Reason.{Reason}
use Rattle.replies.specs.Written.{Writes, answer_most}

-- the state after the event that the bytes s are, in its memory, and the bytes of the answer
pub record Does (l : Limits) (r : Replica) (rest s m b : List ℕ) : Type 0 where
  pub valid : Valid l (after l r (read s))
  pub mem : m ≡ encode l (after l r (read s)) ++ rest
  pub says : b ≡ write_answer (answer l r (read s))

-- A CALL: in the memory m, the bytes s leave m', and are answered by the bytes b.
-- In the memory of a replica, perhaps with more behind it, they do what the rules say; memory that is no replica's stays as it is, and the answer is a refusal by 2
pub record Calls (m s m' b : List ℕ) : Type 0 where
  pub right : (l : Limits) (r : Replica) (rest : List ℕ) → AllSupported l → Valid l r → m ≡ encode l r ++ rest → Does l r rest s m' b
  pub foreign : (Room (limits_at m) (me_at m) m → ⊥) → (m' ≡ m) × (b ≡ write_answer (refused 2 0))

-- what a call with a slice for the answer gives: none and nothing happens, if the slice cannot hold every answer; else how many of its bytes are the answer, and the others are as before
abbrev pub Called : Option ℕ → List ℕ → List ℕ → List ℕ → List ℕ → List ℕ → Type 0
Called r m s m' before after =
    MatchOption r ((length before < answer_most) × (m' ≡ m) × (after ≡ before))
    (λ n. (answer_most ≤ length before) × (n ≤ answer_most) × Calls m s m' (take n after) × (drop n after ≡ drop n before))

-- what an event x in range does at the replica whose memory m is and whose parts lie at p: it is answered by the bytes that are written, or refused, and then nothing is written and the memory stays
abbrev pub Happens : Result ℕ Reason → List ℕ → Place → Checked → List ℕ → List ℕ → List ℕ → Type 0
Happens r m p x m' before out =
    MatchResult r
    (λ n. Writes n before out (λ b. (l : Limits) (s : Replica) (e : Event) → Holds l s m → Laid l s.delivery.me p → AllSupported l → Comes l e x → Holds l (after l s e) m' × (b ≡ write_answer (answer l s e))))
    (λ w. (out ≡ before) × (m' ≡ m) × ((l : Limits) (s : Replica) (e : Event) → Holds l s m → Laid l s.delivery.me p → AllSupported l → Comes l e x → Err w ≡ code_answer l s e))

-- a call that is answered by the bytes that were written; or refused, and then nothing was written and the memory stays
abbrev pub Answered : Result ℕ Reason → List ℕ → List ℕ → List ℕ → List ℕ → List ℕ → Type 0
Answered r m s m' before after =
    MatchResult r (λ n. Writes n before after (Calls m s m')) (λ w. (after ≡ before) × (m' ≡ m) × Calls m s m (write_answer (refused (number_of w) (place_of w))))
