-- `whole::rounded_nearest` meets its contract: the quotient and the rest say which case of the law holds.
-- Assumes nothing.
use mathlib.Core.Path.{◌≡◌}
use native.Mathlib.Omega.{arith}
use Rattle.whole.proofs.Rounded.{nearest_by_zero, nearest_over, nearest_under}
use Rattle.whole.proofs.rounded_nearest.Goals as goal

pub returns-then-b-eq0 : goal.returns-then-b-eq0
returns-then-b-eq0 c = let e : c.args.b ≡ 0 = omega arith in rw (e, nearest_by_zero)

pub returns-then-rest-b : goal.returns-then-rest-b
returns-then-rest-b c = nearest_over c.args.a (omega arith) (omega arith)

pub returns-else-rest-b : goal.returns-else-rest-b
returns-else-rest-b c = nearest_under c.args.a (omega arith) (omega arith)
