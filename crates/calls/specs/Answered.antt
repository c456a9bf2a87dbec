-- What an event is answered, as a value of the code, and what an answer of the code says. Definitions only.
use Rattle.std.specs.Prelude.{◌≡◌, ℕ, Bool, true, false, cond, List, [], ◌∷◌, take, Some, None, Option, Ok, Err, Result, ◌==◌}
use Rattle.model.specs.Limits.{Limits}
use Rattle.model.specs.Put as model
use Rattle.model.specs.Delivery.{Delivery, reply, stamped}
use Rattle.model.specs.Store.{shown}
use Rattle.model.specs.Replica.{Replica, Event, put, get, came, has, tell, garbled, Answer as ModelAnswer, refused, puts, value, clock_is, clock_of, accepted, refusal, place, in_range, answer}
use Rattle.model.specs.Program.{readable}
use Rattle.puts.specs.Values.{Put, code_clock, code_put, narrow, put_of}
use Rattle.puts.specs.Words.{code_slot}
use Rattle.puts.specs.declared.Clock.{Clock as CodeClock}
use Rattle.memory.specs.Valid.{Valid}
use Rattle.calls.specs.declared.Answer.{Answer as AnswerOf}
use Rattle.calls.specs.declared.Answer.TheVariants.{Made, Came, Reply, Value, Clock}
use Rattle.calls.specs.declared.Reason.{Reason}
use Rattle.calls.specs.declared.Reason.TheVariants.{NoEvent, OutOfRange, Impossible, LogFull, QueueFull}

-- every event is supported
abbrev pub AllSupported : Limits → Type 0
AllSupported l = (k : ℕ) → l.supports k ≡ true

-- a check that holds, or the reason that it gives
abbrev pub Passes : {A : Type 0} → Bool → Reason → Result A Reason → Type 0
Passes b w (Ok x) = b ≡ true
Passes b w (Err f) = (b ≡ false) × (f ≡ w)

-- THE NUMBERS OF THE REASONS, here and nowhere else
abbrev pub number_of : Reason → ℕ
number_of (NoEvent n) = 1
number_of OutOfRange = 2
number_of Impossible = 3
number_of LogFull = 4
number_of QueueFull = 5

-- the place of each
abbrev pub place_of : Reason → ℕ
place_of (NoEvent n) = n
place_of OutOfRange = 0
place_of Impossible = 0
place_of LogFull = 0
place_of QueueFull = 0

-- the reason with a number, for a place
abbrev pub reason : ℕ → ℕ → Reason
reason n p = cond (n == 1) (NoEvent p) (cond (n == 2) OutOfRange (cond (n == 3) Impossible (cond (n == 4) LogFull QueueFull)))

-- an answer whose reply is still to be read, for a clock
abbrev pub Answer : Type 0
Answer = AnswerOf CodeClock

-- an accepted event, as the code answers it, from the state before
abbrev pub code_says : Replica → Event → Answer
code_says r (put b) = Made (code_put (stamped b r.delivery))
code_says r (get k) = Value (code_slot (shown r.store k))
code_says r (came p) = Came
code_says r (has j c) = Reply (code_clock c)
code_says r tell = Clock (code_clock (clock_of r))
code_says r (garbled n) = Came

-- any event, as the code answers it
abbrev pub code_answer : Limits → Replica → Event → Result Answer Reason
code_answer l r e = cond (accepted l r e) (Ok (code_says r e)) (Err (reason (refusal l r e) (place e)))

-- a put of the code, of n replicas
abbrev pub one_put : ℕ → Put → model.Put model.Body
one_put n p = narrow n (put_of p)

-- none or one
abbrev pub none_or_one : ℕ → Option Put → List (model.Put model.Body)
none_or_one n None = []
none_or_one n (Some p) = one_put n p ∷ []

-- THE NUMBER AND THE VALUES OF EACH ANSWER: 0 a refusal and its place; 1 puts; 2 none or one; 3 a clock; for n replicas, where `sent` are the puts of a reply
abbrev pub says_with : {R : Type 0} → (R → List (model.Put model.Body)) → ℕ → Result (AnswerOf R) Reason → ModelAnswer
says_with sent n (Err w) = refused (number_of w) (place_of w)
says_with sent n (Ok (Made p)) = puts (one_put n p ∷ [])
says_with sent n (Ok Came) = puts []
says_with sent n (Ok (Reply x)) = puts (sent x)
says_with sent n (Ok (Value p)) = value (none_or_one n p)
says_with sent n (Ok (Clock c)) = clock_is (take n c.counts)

-- the reply that is still to be read, from the state before
abbrev pub says_in : ℕ → Delivery model.Body → Result Answer Reason → ModelAnswer
says_in n d a = says_with (λ c. reply (take n c.counts) d) n a

-- so the code's answer to an event that bytes carry, in range, says what the model's does
abbrev pub AnswerSaid : Type 0
AnswerSaid = (l : Limits) (r : Replica) (e : Event) → Valid l r → readable e ≡ true → in_range l e ≡ true → says_in l.replicas r.delivery (code_answer l r e) ≡ answer l r e
