-- A worked example: three replicas, two keys, logs of two, one put may wait. Definitions only.
use Rattle.std.specs.Prelude.{◌≡◌, ℕ, true, List, [], ◌∷◌, map, replicate}
use Rattle.model.specs.Limits.{Limits}
use Rattle.model.specs.Clock.{Clock}
use Rattle.model.specs.Put.{Put, Body, text}
use Rattle.model.specs.Delivery.{Delivery}
use Rattle.model.specs.Replica.{Event, put, get, came, has, tell, Answer, refused, puts, value, clock_is, answer, replica}
use Rattle.model.specs.Cluster.{Cluster, new_cluster, stepped}
use Rattle.model.specs.Convergence.{turn, ran}

-- the limits of the example
abbrev pub three : Limits
three = record { supports = λ k. true; replicas = 3; keys = 2; log_most = 2; waiting_most = 1 }

abbrev pub clock3 : ℕ → ℕ → ℕ → Clock
clock3 a b c = a ∷ b ∷ c ∷ []

-- the first, second and third put of replica 0, and the first of 1 and of 2
abbrev pub a1 : Put Body
a1 = record { from = 0; seen = clock3 0 0 0; body = text 0 (7 ∷ []) }

abbrev pub b1 : Put Body
b1 = record { from = 1; seen = clock3 1 0 0; body = text 0 (8 ∷ []) }

abbrev pub c1 : Put Body
c1 = record { from = 2; seen = clock3 0 0 0; body = text 0 (9 ∷ []) }

abbrev pub a2 : Put Body
a2 = record { from = 0; seen = clock3 1 1 1; body = text 1 (5 ∷ []) }

abbrev pub a3 : Put Body
a3 = record { from = 0; seen = clock3 2 1 1; body = text 1 (6 ∷ []) }

-- A row: a replica has some events, gives these answers, and then has this clock, this log and this queue.
pub record Row : Type 0 where
  pub who : ℕ
  pub events : List Event
  pub answers : List Answer
  pub clock : Clock
  pub log : List (Put Body)
  pub waiting : List (Put Body)

abbrev row : ℕ → List Event → List Answer → Clock → List (Put Body) → List (Put Body) → Row
row i es az c ps ws = record { who = i; events = es; answers = az; clock = c; log = ps; waiting = ws }

-- replica, events, answers, clock, log, queue
abbrev pub rows : List Row
rows =
    row 0 (put (text 0 (7 ∷ [])) ∷ []) (puts (a1 ∷ []) ∷ []) (clock3 1 0 0) (a1 ∷ []) []
    ∷ row 1 (came a1 ∷ put (text 0 (8 ∷ [])) ∷ []) (puts [] ∷ puts (b1 ∷ []) ∷ []) (clock3 1 1 0) (b1 ∷ []) []
    ∷ row 2 (came b1 ∷ get 0 ∷ []) (puts [] ∷ value [] ∷ []) (clock3 0 0 0) [] (b1 ∷ [])  -- it waits for a1
    ∷ row 2 (put (text 0 (9 ∷ [])) ∷ []) (puts (c1 ∷ []) ∷ []) (clock3 0 0 1) (c1 ∷ []) (b1 ∷ [])
    ∷ row 2 (came b1 ∷ []) (puts [] ∷ []) (clock3 0 0 1) (c1 ∷ []) (b1 ∷ [])  -- it waits already
    ∷ row 2 (came a1 ∷ get 0 ∷ []) (puts [] ∷ value (b1 ∷ []) ∷ []) (clock3 1 1 1) (c1 ∷ []) []  -- both are taken
    ∷ row 0 (came c1 ∷ get 0 ∷ []) (puts [] ∷ value (c1 ∷ []) ∷ []) (clock3 1 0 1) (a1 ∷ []) []  -- as much seen as a1, and of a larger replica
    ∷ row 0 (came b1 ∷ get 0 ∷ []) (puts [] ∷ value (b1 ∷ []) ∷ []) (clock3 1 1 1) (a1 ∷ []) []  -- it had seen a1
    ∷ row 1 (came c1 ∷ get 0 ∷ []) (puts [] ∷ value (b1 ∷ []) ∷ []) (clock3 1 1 1) (b1 ∷ []) []
    ∷ row 0 (put (text 1 (5 ∷ [])) ∷ put (text 1 (6 ∷ [])) ∷ []) (puts (a2 ∷ []) ∷ refused 4 0 ∷ []) (clock3 2 1 1) (a2 ∷ a1 ∷ []) []  -- the log is full
    ∷ row 1 (came c1 ∷ tell ∷ []) (puts [] ∷ clock_is (clock3 1 1 1) ∷ []) (clock3 1 1 1) (b1 ∷ []) []  -- nothing new
    ∷ row 0 (has 1 (clock3 1 1 1) ∷ []) (puts (a2 ∷ []) ∷ []) (clock3 2 1 1) (a2 ∷ a1 ∷ []) []  -- replica 2 may lack a1
    ∷ row 2 (tell ∷ []) (clock_is (clock3 1 1 1) ∷ []) (clock3 1 1 1) (c1 ∷ []) []
    ∷ row 0 (has 2 (clock3 1 1 1) ∷ []) (puts (a2 ∷ []) ∷ []) (clock3 2 1 1) (a2 ∷ []) []  -- a1 leaves the log
    ∷ row 0 (put (text 1 (6 ∷ [])) ∷ []) (puts (a3 ∷ []) ∷ []) (clock3 3 1 1) (a3 ∷ a2 ∷ []) []
    ∷ row 0 (has 2 (clock3 9 1 1) ∷ has 3 (clock3 9 1 1) ∷ []) (refused 3 0 ∷ refused 2 0 ∷ []) (clock3 3 1 1) (a3 ∷ a2 ∷ []) []  -- more than were made; and no such replica
    ∷ []

-- the answers to some events at a replica
unfoldable pub answers : Cluster → ℕ → List Event → List Answer
answers w i [] = []
answers w i (e ∷ es) = answer three (w.replica i) e ∷ answers (stepped three w i e) i es

-- the cluster after a row
abbrev pub past : Cluster → Row → Cluster
past w r = ran three w (map (turn r.who) r.events)

-- what the definitions give for a row
abbrev pub outcome : Cluster → Row → Row
outcome w r =
    let v : Cluster = past w r in
    let d : Delivery Body = (v.replica r.who).delivery in
    record { who = r.who; events = r.events; answers = answers w r.who r.events; clock = d.clock; log = d.log; waiting = d.waiting }

-- each row is what the definitions give, one after the other
abbrev pub Holds : Cluster → List Row → Type 0
Holds w [] = Unit {0}
Holds w (r ∷ rs) = (outcome w r ≡ r) × Holds (past w r) rs

-- the whole example
abbrev pub WorkedExample : Type 0
WorkedExample = Holds (new_cluster three) rows

-- a reply has at most eight puts, the earliest first: of nine that replica 0 made, those before the last
abbrev pub nine : Limits
nine = record { supports = λ k. true; replicas = 2; keys = 1; log_most = 9; waiting_most = 0 }

abbrev nth_put : ℕ → Put Body
nth_put n = record { from = 0; seen = n ∷ 0 ∷ []; body = text 0 [] }

abbrev pub ReplyOfEight : Type 0
ReplyOfEight =
    answer nine (replica nine 0 (replicate 9 (put (text 0 [])))) (has 1 (0 ∷ 0 ∷ []))
    ≡ puts (map nth_put (0 ∷ 1 ∷ 2 ∷ 3 ∷ 4 ∷ 5 ∷ 6 ∷ 7 ∷ []))
