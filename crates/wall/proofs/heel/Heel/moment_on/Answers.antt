-- `wall::heel::Heel::moment_on` meets its contract: the products and their sum fit, and the rest is the rounding.
use Prim.Native.Nat.{◌+◌, ◌*◌, ◌≤◌}
use native.Mathlib.Nat.{mul-le-mul}
use native.Mathlib.Omega.{arith}
use Rattle.rules.specs.ToeAndStem.{moment_on_heel}
use Rattle.rules.proofs.Accepted.{longest}
use Rattle.rules.proofs.Lines.{fill_most}
use Rattle.wall.proofs.heel.Heel.moment_on.Goals.{After-stem_thickness}
use Rattle.wall.proofs.heel.Heel.moment_on.Goals as goal

-- what the fill turns
fill_at : (c : After-stem_thickness) → c.args.self.now.fill * (c.heel_length.result + c.stem_thickness.result) ≤ 40000000 * longest
fill_at c =
    let light : c.args.self.now.fill ≤ 40000000 = omega (arith, fill_most c.args.self.now.wall.within) in
    let short : c.heel_length.result + c.stem_thickness.result ≤ longest = omega arith in
    mul-le-mul light short

pub returns : goal.returns
unfolding moment_on_heel
returns c = cc (c.args.self.now.filled)

pub overflow_mul-self : goal.overflow_mul-self
overflow_mul-self c = omega (arith, fill_at (goal.at.overflow_mul-self c).After-stem_thickness)

pub overflow_mul-self-2 : goal.overflow_mul-self-2
overflow_mul-self-2 c = omega (arith, fill_at (goal.at.overflow_mul-self-2 c).After-stem_thickness)

pub overflow_add-slab : goal.overflow_add-slab
overflow_add-slab c =
    let arm = c.twice_heel_arm-arm.ensures.1 in
    omega (arith, fill_at (goal.at.overflow_add-slab c).After-stem_thickness, mul-le-mul c.slab.ensures.1 (mul-le-mul arm arm))
