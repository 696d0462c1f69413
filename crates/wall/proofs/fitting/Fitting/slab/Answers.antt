-- `wall::fitting::Fitting::slab` meets its contract: neither field is beyond its range.
use Prim.Native.Nat.{◌*◌, ◌≤◌}
use native.Mathlib.Nat.{mul-le-mul}
use native.Mathlib.Omega.{arith}
use Rattle.rules.proofs.Accepted.{most}
use Rattle.wall.proofs.fitting.Fitting.slab.Goals.{After-field-2}
use Rattle.wall.proofs.fitting.Fitting.slab.Goals as goal

slab_most : (c : After-field-2) → 14 * c.field.result * c.field-2.result ≤ 14 * most 11 * most 6
slab_most c =
    let density : c.field.result ≤ most 11 = omega arith in
    let thickness : c.field-2.result ≤ most 6 = omega arith in
    omega (arith, mul-le-mul density thickness)

pub overflow_mul-result-2 : goal.overflow_mul-result-2
overflow_mul-result-2 c = omega (arith, slab_most (goal.at.overflow_mul-result-2 c).After-field-2)

pub returns : goal.returns
returns c = (cc, slab_most (goal.at.returns c).After-field-2)
