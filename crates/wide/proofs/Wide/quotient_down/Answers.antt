-- `wide::Wide::quotient_down` meets its contract: what the division finds is the quotient.
use Rattle.std.proofs.Common.{◌≡◌, ◌^◌, arith}
use Rattle.whole.proofs.Rounded.{down_by_zero, down_greatest, down_only}
use Rattle.wide.specs.Value.{base, value}
use Rattle.wide.proofs.Wide.quotient_down.Goals as goal

pub returns-then-is_zero : goal.returns-then-is_zero
returns-then-is_zero c = let none : value c.args.d ≡ 0 = omega arith in rw (none, down_by_zero)

pub returns-then-is_long : goal.returns-then-is_long
unfolding base
returns-then-is_long c = omega (arith, down_greatest {a = value c.args.self} {b = value c.args.d} {n = 2 ^ 64} (grind arith) (grind arith))

pub returns-else-is_long : goal.returns-else-is_long
returns-else-is_long c = omega (arith, down_only (value c.args.self) {b = value c.args.d} {n = c.divided.result.quotient} (omega arith) (omega arith) (omega arith))
