-- The limits of a replica, set at opening. Definitions only.
use Rattle.std.specs.Prelude.{◌≡◌, ℕ, ◌≤◌, Bool}

-- what a replica is opened with
pub record Limits : Type 0 where
  pub supports : ℕ → Bool  -- the events, by number, that this build supports
  pub replicas : ℕ
  pub keys : ℕ
  pub log_most : ℕ  -- own puts that are kept for others
  pub waiting_most : ℕ  -- puts that came too early

-- limits with which a program that supports the events `can` may be opened
pub record GoodLimits (can : ℕ → Bool) (l : Limits) : Type 0 where
  pub replicas : (1 ≤ l.replicas) × (l.replicas ≤ 16)
  pub keys : (1 ≤ l.keys) × (l.keys ≤ 4096)
  pub log_most : (1 ≤ l.log_most) × (l.log_most ≤ 1024)
  pub waiting_most : l.waiting_most ≤ 1024
  pub supports : (k : ℕ) → l.supports k ≡ can k

-- each count of a clock is below this
abbrev pub count_bound : ℕ
count_bound = 4294967296

-- a value has at most so many bytes
abbrev pub value_most : ℕ
value_most = 64

-- a reply has at most so many puts
abbrev pub reply_most : ℕ
reply_most = 8
