-- `wall::heel::Heel::shear_on` meets its contract: the products and their sum fit, and the rest is the rounding.
use native.Mathlib.Nat.{mul-le-mul}
use native.Mathlib.Omega.{arith}
use Rattle.rules.specs.ToeAndStem.{shear_on_heel}
use Rattle.rules.proofs.Lines.{fill_most}
use Rattle.wall.proofs.heel.Heel.shear_on.Goals as goal

pub returns : goal.returns
unfolding shear_on_heel
returns c = cc (c.args.self.now.filled)

pub overflow_mul-self : goal.overflow_mul-self
overflow_mul-self c = omega (arith, fill_most c.args.self.now.wall.within)

pub overflow_add-slab : goal.overflow_add-slab
overflow_add-slab c = omega (arith, fill_most c.args.self.now.wall.within, mul-le-mul c.slab.ensures.1 c.heel_length.ensures.1)
