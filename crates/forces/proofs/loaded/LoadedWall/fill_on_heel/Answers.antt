-- `forces::loaded::LoadedWall::fill_on_heel` meets its contract. The weights of fill and surcharge are bounded together.
use Prim.Native.Nat.{◌+◌, ◌≤◌}
use native.Mathlib.Omega.{arith}
use Rattle.rules.proofs.Sizes.{weighed}
use Rattle.forces.proofs.loaded.LoadedWall.fill_on_heel.Goals.{After-moist_weight, After-surcharge_weight}
use Rattle.forces.proofs.loaded.LoadedWall.fill_on_heel.Goals as goal

-- the weights, as they are worked
few : (c : After-moist_weight) → c.saturated_weight.result + c.moist_weight.result ≤ 1200001
few c = omega (arith, (weighed c.args.self.now.within).fill, c.saturated_weight.ensures, c.moist_weight.ensures)

light : (c : After-surcharge_weight) → c.surcharge_weight.result ≤ 500000
light c = omega (arith, (weighed c.args.self.now.within).over, c.surcharge_weight.ensures)

pub overflow_add-fill : goal.overflow_add-fill
overflow_add-fill c = omega (arith, few (goal.at.overflow_add-fill c).After-moist_weight)

pub overflow_mul-result : goal.overflow_mul-result
overflow_mul-result c = omega (arith, few (goal.at.overflow_mul-result c).After-moist_weight)

pub overflow_mul-result-2 : goal.overflow_mul-result-2
overflow_mul-result-2 c = omega (arith, light (goal.at.overflow_mul-result-2 c).After-surcharge_weight)

pub overflow_add-result : goal.overflow_add-result
overflow_add-result c = omega (arith, few (goal.at.overflow_add-result c).After-moist_weight, light (goal.at.overflow_add-result c).After-surcharge_weight)
