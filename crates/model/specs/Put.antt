-- Puts and their order. Definitions only.
use Rattle.std.specs.Prelude.{ℕ, suc, Bool, ◌&&◌, ◌||◌, List, length, ◌==◌, nat_le, nat_lt}
use Rattle.model.specs.Limits.{Limits, count_bound, value_most}
use Rattle.model.specs.Clock.{Clock, at, sum, good_clock}

-- A put of replica `from`, whose clock was `seen` before it: the puts it depends on.
pub record Put (B : Type 0) : Type 0 where
  pub from : ℕ
  pub seen : Clock
  pub body : B

-- its number among the puts of its replica, from 1
abbrev pub number : {B : Type 0} → Put B → ℕ
number p = suc (at p.seen p.from)

-- Last writer wins: the later of two has seen more in all; at equal sums it is that of the larger replica.
abbrev pub later : {B : Type 0} → Put B → Put B → Bool
later p q = nat_lt (sum q.seen) (sum p.seen) || (sum q.seen == sum p.seen && nat_lt q.from p.from)

-- a clock has a put
abbrev pub had : {B : Type 0} → Clock → Put B → Bool
had c p = nat_le (number p) (at c p.from)

-- a put is told by its replica and its number
abbrev pub same_put : {B : Type 0} → Put B → Put B → Bool
same_put p q = p.from == q.from && number p == number q

-- from, seen and number are in range
abbrev pub good_head : {B : Type 0} → Limits → Put B → Bool
good_head l p = nat_lt p.from l.replicas && (good_clock l p.seen && nat_lt (number p) count_bound)

-- What a put carries: a value at a key.
pub data Body : Type 0 where
  text : ℕ → List ℕ → Body

-- the key that a put is for
abbrev pub key_of : Body → ℕ
key_of (text k v) = k

-- the bytes of its value
abbrev pub value_of : Body → List ℕ
value_of (text k v) = v

-- key and value are in range
abbrev pub good_body : Limits → Body → Bool
good_body l b = nat_lt (key_of b) l.keys && nat_le (length (value_of b)) value_most
