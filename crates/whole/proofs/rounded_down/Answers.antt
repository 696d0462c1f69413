-- `whole::rounded_down` meets its contract: the quotient is what its specification says.
-- Assumes nothing.
use mathlib.Core.Path.{◌≡◌}
use native.Mathlib.Omega.{arith}
use Rattle.whole.specs.Rounding.{rounded_down}
use Rattle.whole.proofs.Rounded.{down_by_zero}
use Rattle.whole.proofs.rounded_down.Goals as goal

pub returns-then-b-gt0 : goal.returns-then-b-gt0
unfolding rounded_down
returns-then-b-gt0 c = omega arith

pub returns-else-b-gt0 : goal.returns-else-b-gt0
returns-else-b-gt0 c = let e : c.args.b ≡ 0 = omega arith in rw (e, down_by_zero)
