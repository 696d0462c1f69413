-- How big the figures of a block are that is worked out within bounds.
use Prim.Native.Nat.{ℕ, ◌*◌, ◌≤◌, ◌<◌}
use native.Mathlib.Nat.{mul-le-mul}
use native.Mathlib.Omega.{arith}
use Rattle.rules.proofs.Accepted.{longest}
use Rattle.rules.proofs.Sizes.{heaviest_factored}
use Rattle.bearing.specs.Within.{Within}

pub record Bounds (R l : ℕ) : Type 0 where
  pub along : 6 * R * l < 10000000000000
  pub square : 4 * R * R < 40000000000000000
  pub base : l * l < 1000000000

pub bounds : {R l : ℕ} → Within R l → Bounds R l
bounds {R} {l} w =
    let r : R ≤ heaviest_factored = omega (arith, w.force) in
    let long : l ≤ longest = w.length.1 in
    record {
      along = omega (arith, mul-le-mul r long);
      square = omega (arith, mul-le-mul r r);
      base = omega (arith, mul-le-mul long long);
    }
