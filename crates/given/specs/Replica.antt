-- One replica in a first, flat form: one record for all its state, refusals by nested choices, lists by functions of its own. Definitions only.
use Rattle.std.specs.Prelude.{ℕ, zero, suc, ◌+◌, Bool, true, false, not, ◌&&◌, ◌||◌, List, [], ◌∷◌, ◌++◌, length, ◌==◌, nat_le, nat_lt}

unfoldable pub pick : {A : Type 0} → Bool → A → A → A
pick true a b = a
pick false a b = b

unfoldable pub many : {A : Type 0} → ℕ → A → List A
many zero a = []
many (suc n) a = a ∷ many n a

-- the element at a place, d past the end
unfoldable pub nth : {A : Type 0} → A → List A → ℕ → A
nth d [] n = d
nth d (x ∷ xs) zero = x
nth d (x ∷ xs) (suc n) = nth d xs n

-- one element replaced; past the end nothing changes
unfoldable pub set_at : {A : Type 0} → List A → ℕ → A → List A
set_at [] n a = []
set_at (x ∷ xs) zero a = a ∷ xs
set_at (x ∷ xs) (suc n) a = x ∷ set_at xs n a

unfoldable pub take : {A : Type 0} → ℕ → List A → List A
take zero xs = []
take (suc n) [] = []
take (suc n) (x ∷ xs) = x ∷ take n xs

-- how many puts of each replica
abbrev pub Clock : Type 0
Clock = List ℕ

abbrev pub at : Clock → ℕ → ℕ
at c i = nth 0 c i

unfoldable pub sum : Clock → ℕ
sum [] = 0
sum (n ∷ ns) = n + sum ns

-- each count of the first is at most that of the second
unfoldable pub no_more : Clock → Clock → Bool
no_more [] ds = true
no_more (c ∷ cs) [] = c == 0 && no_more cs []
no_more (c ∷ cs) (d ∷ ds) = nat_le c d && no_more cs ds

-- the larger of each count
unfoldable pub most : Clock → Clock → Clock
most [] ds = []
most (c ∷ cs) [] = c ∷ most cs []
most (c ∷ cs) (d ∷ ds) = pick (nat_le c d) d c ∷ most cs ds

-- a put: which replica it is of, and what that replica had before
pub record Put : Type 0 where
  pub key : ℕ
  pub value : List ℕ
  pub from : ℕ
  pub seen : Clock

-- its number among the puts of its replica
abbrev pub number : Put → ℕ
number p = suc (at p.seen p.from)

-- the later of two has seen more in all; of as much, it is that of the larger replica
abbrev pub rank : Put → ℕ
rank p = suc (sum p.seen)

abbrev pub later : Put → Put → Bool
later p q = nat_lt (rank q) (rank p) || (rank q == rank p && nat_lt q.from p.from)

-- the events it supports, by number, and its sizes
pub record Limits : Type 0 where
  pub supports : ℕ → Bool
  pub replicas : ℕ
  pub keys : ℕ
  pub log_most : ℕ
  pub waiting_most : ℕ

-- its number, its clock, at each key none or the latest put, its own puts that somebody may lack (the last first), the puts that came too early, what each replica is known to have
pub record Replica : Type 0 where
  pub me : ℕ
  pub clock : Clock
  pub store : List (List Put)
  pub log : List Put
  pub waiting : List Put
  pub known : List Clock

abbrev pub new_replica : Limits → ℕ → Replica
new_replica l i =
    record { me = i; clock = many l.replicas 0; store = many l.keys []; log = []; waiting = []; known = many l.replicas (many l.replicas 0) }

pub data Event : Type 0 where
  put : ℕ → List ℕ → Event
  get : ℕ → Event
  came : Put → Event
  has : ℕ → Clock → Event
  tell : Event
  garbled : ℕ → Event

pub data Answer : Type 0 where
  refused : ℕ → ℕ → Answer
  done : List Put → Answer
  value : List Put → Answer
  here : Clock → Answer

unfoldable pub event_number : Event → ℕ
event_number (put k v) = 0
event_number (get k) = 1
event_number (came p) = 2
event_number (has i c) = 3
event_number tell = 4
event_number (garbled n) = 255

-- a put can be taken if it is the next of its replica, and all that its replica had seen is here
abbrev pub next_one : Clock → Put → Bool
next_one c p = number p == suc (at c p.from) && no_more p.seen c

abbrev pub had : Clock → Put → Bool
had c p = nat_le (number p) (at c p.from)

unfoldable pub better : Put → List Put → List Put
better p [] = p ∷ []
better p (q ∷ qs) = pick (later p q) (p ∷ []) (q ∷ [])

-- what all are known to have leaves the log
unfoldable pub all_have : List Clock → Put → Bool
all_have [] p = true
all_have (c ∷ cs) p = had c p && all_have cs p

unfoldable pub still_needed : List Clock → List Put → List Put
still_needed cs [] = []
still_needed cs (p ∷ ps) = pick (all_have cs p) (still_needed cs ps) (p ∷ still_needed cs ps)

abbrev pub plus_one : Clock → ℕ → Clock
plus_one c i = set_at c i (suc (at c i))

-- a put is taken: it counts, and stands at its key if it is later; an own one is logged
abbrev pub taken : Put → Replica → Replica
taken p h =
    let c : Clock = plus_one h.clock p.from in
    let k : List Clock = set_at h.known h.me c in
    record { me = h.me; clock = c; store = set_at h.store p.key (better p (nth [] h.store p.key)); log = still_needed k (pick (p.from == h.me) (p ∷ h.log) h.log); waiting = h.waiting; known = k }

abbrev pub with_waiting : List Put → Replica → Replica
with_waiting ps h = record { me = h.me; clock = h.clock; store = h.store; log = h.log; waiting = ps; known = h.known }

-- the first of those waiting that can be taken: none or one
unfoldable pub first_ready : Clock → List Put → List Put
first_ready c [] = []
first_ready c (p ∷ ps) = pick (next_one c p) (p ∷ []) (first_ready c ps)

abbrev pub same_put : Put → Put → Bool
same_put p q = p.from == q.from && number p == number q

unfoldable pub is_in : Put → List Put → Bool
is_in p [] = false
is_in p (q ∷ qs) = same_put p q || is_in p qs

unfoldable pub not_had : Clock → List Put → List Put
not_had c [] = []
not_had c (p ∷ ps) = pick (had c p) (not_had c ps) (p ∷ not_had c ps)

-- what is had now waits no more
abbrev pub clean : Replica → Replica
clean h = with_waiting (not_had h.clock h.waiting) h

unfoldable pub take_each : List Put → (Replica → Replica) → Replica → Replica
take_each [] f h = h
take_each (p ∷ ps) f h = f (clean (taken p h))

-- those that can be taken now, one after the other
unfoldable pub settle : ℕ → Limits → Replica → Replica
settle zero l h = h
settle (suc n) l h = take_each (first_ready h.clock h.waiting) (settle n l) h

abbrev pub settled : Limits → Replica → Replica
settled l h = settle l.waiting_most l h

abbrev pub good_value : List ℕ → Bool
good_value v = nat_le (length v) 64

unfoldable pub counts : Clock → Bool
counts [] = true
counts (n ∷ ns) = nat_lt n 4294967296 && counts ns

abbrev pub good_clock : Limits → Clock → Bool
good_clock l c = length c == l.replicas && counts c

-- key, replica, clock and value are in range
unfoldable pub good_fields : Limits → Event → Bool
good_fields l (put k v) = nat_lt k l.keys && good_value v
good_fields l (get k) = nat_lt k l.keys
good_fields l (came p) = (nat_lt p.key l.keys && good_value p.value) && (nat_lt p.from l.replicas && (good_clock l p.seen && nat_lt (number p) 4294967296))
good_fields l (has i c) = nat_lt i l.replicas && good_clock l c
good_fields l tell = true
good_fields l (garbled n) = true

-- 3 a put that cannot be one of that replica, 4 no room for an own put, 5 no room for what waits
unfoldable pub refusal_by : Limits → Replica → Event → ℕ
refusal_by l h (put k v) = pick (nat_lt (length h.log) l.log_most && nat_lt (suc (at h.clock h.me)) 4294967296) 0 4
refusal_by l h (get k) = 0
refusal_by l h (came p) =
    pick (p.from == h.me && not (had h.clock p)) 3
    (pick (had h.clock p || is_in p h.waiting) 0
    (pick (next_one h.clock p) 0 (pick (nat_lt (length h.waiting) l.waiting_most) 0 5)))
refusal_by l h (has i c) = pick (nat_le (at c h.me) (at h.clock h.me)) 0 3
refusal_by l h tell = 0
refusal_by l h (garbled n) = 1

-- the refusal of an event, 0 for none: 1 no event, 2 out of range or not supported, else the above
abbrev pub refusal : Limits → Replica → Event → ℕ
refusal l h e = pick (event_number e == 255) 1 (pick (l.supports (event_number e) && good_fields l e) (refusal_by l h e) 2)

abbrev pub own_put : Replica → ℕ → List ℕ → Put
own_put h k v = record { key = k; value = v; from = h.me; seen = h.clock }

-- what comes is taken, or waits, or is nothing new
abbrev pub takes_in : Limits → Replica → Put → Replica
takes_in l h p =
    pick (had h.clock p || is_in p h.waiting) h
    (pick (next_one h.clock p) (settled l (clean (taken p h))) (with_waiting (h.waiting ++ (p ∷ [])) h))

-- what replica i is known to have
abbrev pub knows : Limits → Replica → ℕ → Clock → Replica
knows l h i c =
    let k : List Clock = set_at h.known i (most (nth [] h.known i) c) in
    record { me = h.me; clock = h.clock; store = h.store; log = still_needed k h.log; waiting = h.waiting; known = k }

unfoldable pub does : Limits → Replica → Event → Replica
does l h (put k v) = clean (taken (own_put h k v) h)
does l h (get k) = h
does l h (came p) = takes_in l h p
does l h (has i c) = knows l h i c
does l h tell = h
does l h (garbled n) = h

unfoldable pub backward : List Put → List Put → List Put
backward [] acc = acc
backward (p ∷ ps) acc = backward ps (p ∷ acc)

-- of the log, what a clock lacks, the earliest first, at most eight
abbrev pub lacks : Clock → List Put → List Put
lacks c ps = take 8 (not_had c (backward ps []))

unfoldable pub says : Limits → Replica → Event → Answer
says l h (put k v) = done (own_put h k v ∷ [])
says l h (get k) = value (nth [] h.store k)
says l h (came p) = done []
says l h (has i c) = done (lacks c h.log)
says l h tell = here h.clock
says l h (garbled n) = done []

unfoldable pub place : Event → ℕ
place (garbled n) = n
place (put k v) = 0
place (get k) = 0
place (came p) = 0
place (has i c) = 0
place tell = 0

abbrev pub answer : Limits → Replica → Event → Answer
answer l h e = pick (refusal l h e == 0) (says l h e) (refused (refusal l h e) (place e))

abbrev pub after : Limits → Replica → Event → Replica
after l h e = pick (refusal l h e == 0) (does l h e) h
