-- Which event a value stands for.
use Rattle.std.proofs.Common.{◌≡◌, ℕ, zero, suc, ◌<◌, Bool, true, false, ◌&&◌, ltb, List, [], ◌∷◌, refl, subst, arith, ltb-true}
use borrow.Author.Tests.{clash}
use Rattle.model.specs.Limits.{Limits}
use Rattle.model.specs.Put.{Put, Body, text, good_body, value_of}
use Rattle.model.specs.Program.{all_below, byte_bound, readable, readable_body, word_bound}
use Rattle.model.specs.Replica.{Event, put, get, came, has, tell, garbled, legible, in_range}
use Rattle.puts.specs.Values.{Bytes, code_clock, code_put, code_text}
use Rattle.puts.specs.declared.Clock.{Clock as CodeClock}
use Rattle.model.specs.Clock.{Clock}
use Rattle.puts.specs.Values.{Put as CodePut}
use Rattle.puts.specs.declared.Text.{Text}
use Rattle.ranges.specs.Checked.{code_event}
use Rattle.puts.specs.declared.event.Event.TheVariants.{Put as Put', Get, Came, Has, Tell}

never : {A : Type 0} → ◌≡◌ {A = ℕ} 0 1 → A
never z = absurd (omega arith)

module _ (X : Event → Type 0) where
  pub put_case : (k : ℕ) (t : Text) → ((v : List ℕ) → t ≡ code_text v → X (put (text k v))) → (e : Event) → Put' k t ≡ code_event e → X e
  put_case k t f (put (text j v)) h = let s : k ≡ j = cc in let z : t ≡ code_text v = cc in subst (λ i. X (put (text i v))) s (f v z)
  put_case k t f (get j) h = never (cc)
  put_case k t f (came q) h = never (cc)
  put_case k t f (has j c) h = never (cc)
  put_case k t f tell h = never (cc)
  put_case k t f (garbled n) h = never (cc)

  pub get_case : (k : ℕ) → X (get k) → (e : Event) → Get k ≡ code_event e → X e
  get_case k x (put (text j v)) h = never (cc)
  get_case k x (get j) h = let s : k ≡ j = cc in subst (λ i. X (get i)) s x
  get_case k x (came q) h = never (cc)
  get_case k x (has j c) h = never (cc)
  get_case k x tell h = never (cc)
  get_case k x (garbled n) h = never (cc)

  pub came_case : (p : CodePut) → ((q : Put Body) → p ≡ code_put q → X (came q)) → (e : Event) → Came p ≡ code_event e → X e
  came_case p f (put (text j v)) h = never (cc)
  came_case p f (get j) h = never (cc)
  came_case p f (came q) h = let s : p ≡ code_put q = cc in f q s
  came_case p f (has j c) h = never (cc)
  came_case p f tell h = never (cc)
  came_case p f (garbled n) h = never (cc)

  pub has_case : (j : ℕ) (k : CodeClock) → ((c : Clock) → k ≡ code_clock c → X (has j c)) → (e : Event) → Has j k ≡ code_event e → X e
  has_case j k f (put (text i v)) h = never (cc)
  has_case j k f (get i) h = never (cc)
  has_case j k f (came q) h = never (cc)
  has_case j k f (has i c) h = let s : j ≡ i = cc in let z : k ≡ code_clock c = cc in subst (λ n. X (has n c)) s (f c z)
  has_case j k f tell h = never (cc)
  has_case j k f (garbled n) h = never (cc)

  pub tell_case : X tell → (e : Event) → legible e ≡ true → Tell ≡ code_event e → X e
  unfolding legible
  tell_case x (put (text j v)) g h = never (cc)
  tell_case x (get j) g h = never (cc)
  tell_case x (came q) g h = never (cc)
  tell_case x (has j c) g h = never (cc)
  tell_case x tell g h = x
  tell_case x (garbled n) g h = absurd (clash g)

-- what bytes carry is bytes
last_of : (a b : Bool) → (a && b) ≡ true → b ≡ true
last_of true b e = e
last_of false b e = absurd (clash e)

first_of : (a b : Bool) → (a && b) ≡ true → a ≡ true
first_of true b e = refl
first_of false b e = absurd (clash e)

bytes_of : (v : List ℕ) → all_below byte_bound v ≡ true → Bytes v
unfolding all_below
bytes_of [] e i = omega arith
bytes_of (x ∷ v) e zero = ltb-true x byte_bound (first_of (ltb x byte_bound) (all_below byte_bound v) e)
bytes_of (x ∷ v) e (suc i) = bytes_of v (last_of (ltb x byte_bound) (all_below byte_bound v) e) i

pub put_bytes : (k : ℕ) (v : List ℕ) → readable (put (text k v)) ≡ true → Bytes v
unfolding readable
put_bytes k v e = bytes_of v (last_of (ltb k word_bound) (all_below byte_bound v) e)

pub put_good : (l : Limits) (b : Body) → in_range l (put b) ≡ true → good_body l b ≡ true
unfolding in_range
put_good l b e = e

pub get_good : (l : Limits) (k : ℕ) → in_range l (get k) ≡ true → k < l.keys
unfolding in_range
get_good l k e = ltb-true k l.keys e

pub body_bytes : (b : Body) → readable_body b ≡ true → Bytes (value_of b)
body_bytes (text k v) e = bytes_of v (last_of (ltb k word_bound) (all_below byte_bound v) e)

pub came_bytes : (q : Put Body) → readable (came q) ≡ true → Bytes (value_of q.body)
unfolding readable
came_bytes q e = body_bytes q.body (first_of (readable_body q.body) (ltb q.from word_bound && all_below word_bound q.seen) e)
