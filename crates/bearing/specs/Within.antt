-- How big the figures are that a block is worked out from and reported by, in whole numbers.
use Rattle.std.specs.Prelude.{ℕ, ◌*◌, ◌≤◌, ◌<◌, ◌^◌, pos, ◌≤ℤ◌}
use Rattle.whole.specs.Parts.{above_zero}
use Rattle.rules.specs.declared.Totals.{Totals}
use Rattle.rules.specs.declared.Block.{Block}
use Rattle.rules.proofs.Accepted.{longest}
use Rattle.rules.proofs.Sizes.{heaviest_factored}

-- R and l, of an accepted wall in service or factored
pub record Within (R l : ℕ) : Type 0 where
  pub force : (0 < R) × (R < heaviest_factored)
  pub length : (0 < l) × (l ≤ longest)

-- and a scale to report pressures at
pub record Scaled (scale R l : ℕ) : Type 0 where
  pub within : Within R l
  pub small : scale ≤ 1000
  pub square : scale * (4 * R * R) < 2 ^ 63

-- totals that a block can be worked from and reported by; where M6 isn't above 0 there is none to work
pub record Workable (scale l : ℕ) (t : Totals) : Type 0 where
  pub least : pos 0 ≤ℤ t.R
  pub scaled : 0 < above_zero t.M6 → Scaled scale (above_zero t.R) l

-- a block's pressures can be multiplied by the scale
pub record Reportable (scale : ℕ) (b : Block) : Type 0 where
  pub toe : scale * above_zero b.toe.over < 2 ^ 63
  pub heel : scale * above_zero b.heel.over < 2 ^ 63
