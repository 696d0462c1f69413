-- The totals of a wall that fits with its loads can be worked into a block, since they are small.
use mathlib.Core.List.{List}
use Prim.Native.Nat.{ℕ, ◌*◌, ◌≤◌, ◌<◌, ◌^◌}
use native.Mathlib.Nat.{mul-le-mul, mul-le-mul_left}
use native.Mathlib.Omega.{arith}
use lib.Dec.{T, lit≤, lit<}
use lib.IntN.{ℤ, pos, negsuc}
use lib.Signed.{◌<ℤ◌}
use Rattle.whole.specs.Parts.{above_zero}
use Rattle.whole.proofs.Integer.{≤ℤ-of-<ℤ, pos-<ℤ}
use Rattle.rules.specs.declared.Totals.{Totals}
use Rattle.rules.specs.JobFile.{Wall, Load, base_length}
use Rattle.rules.specs.Bearing.{service_scale, factored_scale}
use Rattle.rules.specs.Forces.{service, factored}
use Rattle.rules.specs.Beyond.{fits}
use Rattle.rules.proofs.Accepted.{wall_within, longest, base_length_lem}
use Rattle.rules.proofs.Examined.{Fit, fit}
use Rattle.rules.proofs.Sizes.{Sized, heaviest, heaviest_factored, service_sized, factored_sized}
use Rattle.bearing.specs.Within.{Scaled, Workable}

-- small totals are, at a scale that suits them
module _ (scale most l : ℕ) (small : scale ≤ 1000) (light : most ≤ heaviest_factored) (square : scale * (4 * most * most) < 2 ^ 63) (long : (0 < l) × (l ≤ longest)) where
  scaled : (R : ℤ) → pos 0 <ℤ R → R <ℤ pos most → Scaled scale (above_zero R) l
  scaled (pos r) some less =
      let under : r ≤ most = omega (arith, pos-<ℤ.0 less) in
      let squares : 4 * r * r ≤ 4 * most * most = omega (arith, mul-le-mul under under) in
      record {
        within = record { force = (pos-<ℤ.0 some, omega (arith, pos-<ℤ.0 less)); length = long };
        small = small;
        square = omega (arith, mul-le-mul_left scale squares);
      }
  scaled (negsuc r) some less = absurd some.lt

  sized : (t : Totals) → Sized most t → Workable scale l t
  sized t s = record { least = ≤ℤ-of-<ℤ s.some; scaled = λ up. scaled t.R s.some s.R }

-- those of a wall that fits with its loads are
module _ (wall : Wall) (loads : List Load) (t : T (fits wall loads)) where
  f : Fit wall loads
  f = fit wall loads t

  long : (0 < base_length wall) × (base_length wall ≤ longest)
  long = omega (arith, base_length_lem (wall_within wall f.wall_fits))

  -- in service
  pub service_workable : Workable service_scale (base_length wall) (service wall loads)
  service_workable = sized service_scale heaviest (base_length wall) (lit≤ tt) (lit≤ tt) (lit< tt) long _ (service_sized wall loads f)

  -- and factored
  pub factored_workable : Workable factored_scale (base_length wall) (factored wall loads)
  factored_workable = sized factored_scale heaviest_factored (base_length wall) (lit≤ tt) (lit≤ tt) (lit< tt) long _ (factored_sized wall loads f)
