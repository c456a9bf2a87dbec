-- A flat replica and a replica of the model go through events together.
use Rattle.std.proofs.Common.{◌≡◌, ℕ, zero, suc, Bool, true, false, cond, not, ◌&&◌, ◌||◌, eqb, ltb, leb, List, [], ◌∷◌, ◌++◌, map, length, get_or, take, set, replicate, sym, refl, ap, ◌∙◌, subst}
use Rattle.std.proofs.lemmas.List.{map-set, map_push, take-map, length-map}
use Rattle.model.specs.Limits.{count_bound}
use Rattle.model.specs.Clock.{Clock, at, join, tick, good_clock}
use Rattle.model.specs.Put.{Put, Body, text}
use Rattle.model.specs.Delivery.{Delivery, ready, nothing_new, lacking, pruned, counted, enqueued, learned, Run, begin, take_one, first_ready, take_then, settle, deliver}
use Rattle.model.specs.Store.{Store, shown, stand, stored, stored_all}
use Rattle.model.specs.Replica.{Replica, new_replica, put, get, has, tell, puts, value, event_number, legible, in_range, possible, log_room, queue_room, first_failing, refusal, accepted, place, moves, moved, says, answer, after}
use Rattle.given.specs.Translation.{limits, lift, up, event, lifted, lowered}
use Rattle.given.proofs.Parts.{pick_is, many_is, nth_is, set_is, take_is, join_is, small_is, tick_is, lower_lift, number_is, had_is, is_in_is, ready_is, lacking_is, pruned_is, lift_pick, first_is, reversed_is, stand_is}
use Rattle.given.specs.Replica as f

pub lowered_lifted : (a : f.Answer) → lowered (lifted a) ≡ a
lowered_lifted (f.refused n k) = refl
lowered_lifted (f.done ps) = ap f.done (lower_lift ps)
lowered_lifted (f.value ps) = ap f.value (lower_lift ps)
lowered_lifted (f.here c) = refl

-- TAKING
abbrev took : Put Body → Replica → Replica
took q r = record { delivery = counted q r.delivery; store = stored q r.store }

pub shown_is : (s : List (List f.Put)) (k : ℕ) → map lift (f.nth [] s k) ≡ shown (map (map lift) s) k
unfolding f.nth
shown_is [] k = refl
shown_is (x ∷ s) zero = refl
shown_is (x ∷ s) (suc k) = shown_is s k

taken_is : (p : f.Put) (h : f.Replica) → up (f.clean (f.taken p h)) ≡ took (lift p) (up h)
taken_is p h = λ n. record { delivery = record { me = h.me; clock = c n; log = ls n; waiting = ws n; known = ks n }; store = st n }
  where
    c : f.plus_one h.clock p.from ≡ tick h.clock p.from
    c = tick_is h.clock p.from

    ks : f.set_at h.known h.me (f.plus_one h.clock p.from) ≡ set h.known h.me (tick h.clock p.from)
    ks = set_is h.known h.me (f.plus_one h.clock p.from) ∙ ap (set h.known h.me) c

    own : Bool
    own = eqb p.from h.me

    ls : map lift (f.still_needed (f.set_at h.known h.me (f.plus_one h.clock p.from)) (f.pick own (p ∷ h.log) h.log))
        ≡ pruned (set h.known h.me (tick h.clock p.from)) (cond own (lift p ∷ map lift h.log) (map lift h.log))
    ls =
        pruned_is (f.set_at h.known h.me (f.plus_one h.clock p.from)) (f.pick own (p ∷ h.log) h.log)
        ∙ (ap (λ z. pruned z (map lift (f.pick own (p ∷ h.log) h.log))) ks ∙ ap (pruned (set h.known h.me (tick h.clock p.from))) (lift_pick own own (p ∷ h.log) h.log refl))

    ws : map lift (f.not_had (f.plus_one h.clock p.from) h.waiting) ≡ lacking (tick h.clock p.from) (map lift h.waiting)
    ws = lacking_is (f.plus_one h.clock p.from) h.waiting ∙ ap (λ z. lacking z (map lift h.waiting)) c

    at_key : List f.Put
    at_key = f.better p (f.nth [] h.store p.key)

    st : map (map lift) (f.set_at h.store p.key at_key) ≡ stored (lift p) (map (map lift) h.store)
    st =
        (ap (map (map lift)) (set_is h.store p.key at_key) ∙ map-set (map lift) h.store p.key at_key)
        ∙ ap (set (map (map lift) h.store) p.key) (stand_is p (f.nth [] h.store p.key) ∙ ap (stand (lift p)) (shown_is h.store p.key))

take_each_is : (x : f.Replica → f.Replica) (y : Run Body → Run Body) (h : f.Replica) (m : Run Body) (s : Store) → up h ≡ moved m s →
    ((p : f.Put) → up (x (f.clean (f.taken p h))) ≡ moved (y (take_one (lift p) m)) s) → (ps : List f.Put) → up (f.take_each ps x h) ≡ moved (take_then y (map lift ps) m) s
unfolding f.take_each take_then
take_each_is x y h m s e k [] = e
take_each_is x y h m s e k (p ∷ ps) = k p

settle_is : (l : f.Limits) (n : ℕ) (h : f.Replica) (m : Run Body) (s : Store) → up h ≡ moved m s → up (f.settle n l h) ≡ moved (settle n m) s
unfolding f.settle settle stored_all
settle_is l zero h m s e = e
settle_is l (suc n) h m s e =
    subst (λ qs. up (f.take_each (f.first_ready h.clock h.waiting) (f.settle n l) h) ≡ moved (take_then (settle n) qs m) s)
    (first_is (up h).delivery h.waiting ∙ ap (λ (r : Replica). first_ready r.delivery r.delivery.waiting) e)
    (take_each_is (f.settle n l) (settle n) h m s e (λ p. settle_is l n (f.clean (f.taken p h)) (take_one (lift p) m) s (taken_is p h ∙ ap (took (lift p)) e)) (f.first_ready h.clock h.waiting))

-- EVENTS
up_pick : (b t : Bool) (x y : f.Replica) (m k : Run Body) (s : Store) → b ≡ t → up x ≡ moved m s → up y ≡ moved k s → up (f.pick b x y) ≡ moved (cond t m k) s
unfolding f.pick
up_pick b true x y m k s e g h = ap (λ z. up (f.pick z x y)) e ∙ g
up_pick b false x y m k s e g h = ap (λ z. up (f.pick z x y)) e ∙ h

abbrev with_queue : f.Replica → List (Put Body) → Replica
with_queue h ws = record { delivery = record { me = h.me; clock = h.clock; log = map lift h.log; waiting = ws; known = h.known }; store = map (map lift) h.store }

came_is : (l : f.Limits) (h : f.Replica) (p : f.Put) → up (f.takes_in l h p) ≡ moved (deliver (limits l) (lift p) (up h).delivery) (up h).store
unfolding stored_all
came_is l h p =
    up_pick (f.had h.clock p || f.is_in p h.waiting) (nothing_new d (lift p)) h (f.pick (f.next_one h.clock p) taken held) (begin d) (cond (ready d (lift p)) now later) (up h).store
    (cc (had_is h.clock p, is_in_is p h.waiting)) refl
    (up_pick (f.next_one h.clock p) (ready d (lift p)) taken held now later (up h).store (ready_is d p)
    (settle_is l l.waiting_most (f.clean (f.taken p h)) (take_one (lift p) (begin d)) (up h).store (taken_is p h)) (ap (with_queue h) (map_push lift h.waiting p)))
  where
    d : Delivery Body
    d = (up h).delivery

    taken : f.Replica
    taken = f.settled l (f.clean (f.taken p h))

    held : f.Replica
    held = f.with_waiting (h.waiting ++ (p ∷ [])) h

    now : Run Body
    now = settle l.waiting_most (take_one (lift p) (begin d))

    later : Run Body
    later = begin (enqueued (lift p) d)

has_is : (l : f.Limits) (h : f.Replica) (i : ℕ) (c : Clock) → up (f.knows l h i c) ≡ moved (begin (learned i c (up h).delivery)) (up h).store
unfolding stored_all
has_is l h i c = λ n. record { delivery = record { me = h.me; clock = h.clock; log = ls n; waiting = map lift h.waiting; known = ks n }; store = map (map lift) h.store }
  where
    ks : f.set_at h.known i (f.most (f.nth [] h.known i) c) ≡ set h.known i (join (get_or h.known i []) c)
    ks = set_is h.known i (f.most (f.nth [] h.known i) c) ∙ ap (set h.known i) (join_is (f.nth [] h.known i) c ∙ ap (λ z. join z c) (nth_is [] h.known i))

    ls : map lift (f.still_needed (f.set_at h.known i (f.most (f.nth [] h.known i) c)) h.log) ≡ pruned (set h.known i (join (get_or h.known i []) c)) (map lift h.log)
    ls = pruned_is (f.set_at h.known i (f.most (f.nth [] h.known i) c)) h.log ∙ ap (λ z. pruned z (map lift h.log)) ks

does_is : (l : f.Limits) (h : f.Replica) (e : f.Event) → up (f.does l h e) ≡ moved (moves (limits l) (up h).delivery (event e)) (up h).store
unfolding f.does moves stored_all
does_is l h (f.put k v) = taken_is (f.own_put h k v) h
does_is l h (f.get k) = refl
does_is l h (f.came p) = came_is l h p
does_is l h (f.has i c) = has_is l h i c
does_is l h f.tell = refl
does_is l h (f.garbled n) = refl

says_is : (l : f.Limits) (h : f.Replica) (e : f.Event) → lifted (f.says l h e) ≡ says (up h) (event e)
unfolding f.says says
says_is l h (f.put k v) = refl
says_is l h (f.get k) = ap value (shown_is h.store k)
says_is l h (f.came p) = refl
says_is l h (f.has i c) =
    ap puts (ap (map lift) (take_is 8 (f.not_had c (f.backward h.log [])))
    ∙ (sym (take-map lift 8 (f.not_had c (f.backward h.log []))) ∙ ap (take 8) (lacking_is c (f.backward h.log []) ∙ ap (lacking c) (reversed_is h.log []))))
says_is l h f.tell = refl
says_is l h (f.garbled n) = refl

place_is : (e : f.Event) → f.place e ≡ place (event e)
unfolding f.place place
place_is (f.put k v) = refl
place_is (f.get k) = refl
place_is (f.came p) = refl
place_is (f.has i c) = refl
place_is f.tell = refl
place_is (f.garbled n) = refl

-- REFUSALS
good_clock_is : (l : f.Limits) (c : Clock) → f.good_clock l c ≡ good_clock (limits l) c
good_clock_is l c = ap (λ b. eqb (length c) l.replicas && b) (small_is c)

in_range_is : (l : f.Limits) (e : f.Event) → f.good_fields l e ≡ in_range (limits l) (event e)
unfolding f.good_fields in_range
in_range_is l (f.put k v) = refl
in_range_is l (f.get k) = refl
in_range_is l (f.came p) = cc (good_clock_is l p.seen, number_is p)
in_range_is l (f.has i c) = cc (good_clock_is l c)
in_range_is l f.tell = refl
in_range_is l (f.garbled n) = refl

-- nested choices, as checks in order
picked : {A : Type 0} (b t : Bool) (x y z : A) → b ≡ t → x ≡ y → f.pick b x z ≡ cond t y z
picked b t x y z e g = cc (pick_is b x z)

nested : (s o h n r m : Bool) → ◌≡◌ {A = ℕ} (f.pick s (f.pick (o && not h) 3 (f.pick n 0 (f.pick r 0 (f.pick m 0 5)))) 2) (cond s (cond (not o || h) (cond ((n || r) || m) 0 5) 3) 2)
unfolding f.pick
nested false o h n r m = refl
nested true true false n r m = refl
nested true true true true r m = refl
nested true true true false true m = refl
nested true true true false false true = refl
nested true true true false false false = refl
nested true false h true r m = refl
nested true false h false true m = refl
nested true false h false false true = refl
nested true false h false false false = refl

valid_is : (l : f.Limits) (e : f.Event) (n : ℕ) → (l.supports n && f.good_fields l e) ≡ (l.supports n && in_range (limits l) (event e))
valid_is l e n = ap (λ b. l.supports n && b) (in_range_is l e)

pub refusal_is : (l : f.Limits) (h : f.Replica) (e : f.Event) → f.refusal l h e ≡ refusal (limits l) (up h) (event e)
unfolding f.pick first_failing f.event_number event_number legible possible f.refusal_by log_room queue_room
refusal_is l h (f.put k v) =
    let t : Bool = ltb (length h.log) l.log_most && ltb (suc (f.at h.clock h.me)) count_bound in
    let u : Bool = ltb (length (map lift h.log)) l.log_most && ltb (suc (at h.clock h.me)) count_bound in
    picked (l.supports 0 && f.good_fields l (f.put k v)) (l.supports 0 && in_range (limits l) (put (text k v))) (f.pick t 0 4) (cond u 0 4) 2 (valid_is l (f.put k v) 0)
    (picked t u 0 0 4 (cc (length-map h.log lift, nth_is 0 h.clock h.me)) refl)
refusal_is l h (f.get k) = picked (l.supports 1 && f.good_fields l (f.get k)) (l.supports 1 && in_range (limits l) (get k)) 0 0 2 (valid_is l (f.get k) 1) refl
refusal_is l h (f.came p) =
    let h1 : Bool = f.had h.clock p in
    nested (l.supports 2 && f.good_fields l (f.came p)) (eqb p.from h.me) h1 (h1 || f.is_in p h.waiting) (f.next_one h.clock p) (ltb (length h.waiting) l.waiting_most)
    ∙ cc (valid_is l (f.came p) 2, had_is h.clock p, is_in_is p h.waiting, ready_is (up h).delivery p, length-map h.waiting lift)
refusal_is l h (f.has i c) =
    let t : Bool = leb (f.at c h.me) (f.at h.clock h.me) in
    let u : Bool = leb (at c h.me) (at h.clock h.me) in
    picked (l.supports 3 && f.good_fields l (f.has i c)) (l.supports 3 && in_range (limits l) (has i c)) (f.pick t 0 3) (cond u 0 3) 2 (valid_is l (f.has i c) 3)
    (picked t u 0 0 3 (cc (nth_is 0 c h.me, nth_is 0 h.clock h.me)) refl)
refusal_is l h f.tell = picked (l.supports 4 && f.good_fields l f.tell) (l.supports 4 && in_range (limits l) tell) 0 0 2 (valid_is l f.tell 4) refl
refusal_is l h (f.garbled n) = refl

-- SO ANSWERS AND STATES AFTER AGREE
accepted_is : (l : f.Limits) (h : f.Replica) (e : f.Event) → eqb (f.refusal l h e) 0 ≡ accepted (limits l) (up h) (event e)
accepted_is l h e = ap (λ n. eqb n 0) (refusal_is l h e)

lifted_pick : (b : Bool) (x y : f.Answer) → lifted (f.pick b x y) ≡ cond b (lifted x) (lifted y)
unfolding f.pick
lifted_pick true x y = refl
lifted_pick false x y = refl

pub answer_is : (l : f.Limits) (h : f.Replica) (e : f.Event) → lifted (f.answer l h e) ≡ answer (limits l) (up h) (event e)
answer_is l h e =
    lifted_pick (eqb (f.refusal l h e) 0) (f.says l h e) (f.refused (f.refusal l h e) (f.place e))
    ∙ cc (accepted_is l h e, says_is l h e, refusal_is l h e, place_is e)

up_choice : (b : Bool) (x y : f.Replica) → up (f.pick b x y) ≡ cond b (up x) (up y)
unfolding f.pick
up_choice true x y = refl
up_choice false x y = refl

pub after_is : (l : f.Limits) (h : f.Replica) (e : f.Event) → up (f.after l h e) ≡ after (limits l) (up h) (event e)
after_is l h e = up_choice (eqb (f.refusal l h e) 0) (f.does l h e) h ∙ cc (accepted_is l h e, does_is l h e)

empty_is : (n : ℕ) → map (map lift) (f.many n []) ≡ replicate n []
unfolding f.many
empty_is zero = refl
empty_is (suc n) = ap (λ xs. [] ∷ xs) (empty_is n)

pub new_is : (l : f.Limits) (i : ℕ) → up (f.new_replica l i) ≡ new_replica (limits l) i
new_is l i = λ n. record { delivery = record { me = i; clock = c n; log = []; waiting = []; known = ks n }; store = empty_is l.keys n }
  where
    c : f.many {A = ℕ} l.replicas 0 ≡ replicate l.replicas 0
    c = many_is l.replicas 0

    ks : f.many l.replicas (f.many {A = ℕ} l.replicas 0) ≡ replicate l.replicas (replicate l.replicas 0)
    ks = many_is l.replicas (f.many l.replicas 0) ∙ ap (replicate l.replicas) c
