-- Regions and a number of replicas in range. Definitions only.
use Rattle.std.specs.Prelude.{◌≡◌, ℕ, ◌≤◌}
use Rattle.puts.specs.Values.{clock_size}
use Rattle.memory.specs.declared.Layout.{Layout}

-- so that no place overflows
pub record Ranged (x : Layout) (n : ℕ) : Type 0 where
  pub replicas : n ≤ clock_size
  pub keys : x.keys.base ≡ 0
  pub log : (x.log.base ≤ 4096) × (x.log.count ≤ 1024)
  pub waiting : (x.waiting.base ≤ 5120) × (x.waiting.count ≤ 1024)
