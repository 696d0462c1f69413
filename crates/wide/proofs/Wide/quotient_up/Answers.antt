-- `wide::Wide::quotient_up` meets its contract: what the division finds is enough where nothing is left, and else one more is.
use Rattle.std.proofs.Common.{◌≡◌, ◌+◌, ◌^◌, arith}
use Rattle.whole.proofs.Rounded.{up_by_zero, up_only, down_greatest, down_nearest, nearest_up}
use Rattle.wide.specs.Value.{base, value}
use Rattle.wide.proofs.Wide.quotient_up.Goals as goal

pub returns-then-is_zero : goal.returns-then-is_zero
returns-then-is_zero c = let none : value c.args.d ≡ 0 = omega arith in rw (none, up_by_zero)

-- rounded down it is too much already
pub returns-then-is_long : goal.returns-then-is_long
unfolding base
returns-then-is_long c =
    let n = value c.args.self in
    let d = value c.args.d in
    omega (arith, down_greatest {a = n} {b = d} {n = 2 ^ 64} (grind arith) (grind arith), down_nearest n d, nearest_up n d)

pub returns-then-is_zero-2 : goal.returns-then-is_zero-2
returns-then-is_zero-2 c = omega (arith, up_only (value c.args.self) {b = value c.args.d} {n = c.divided-by.result.quotient} (omega arith) (omega arith) (omega arith))

pub returns-else-is_zero-2 : goal.returns-else-is_zero-2
returns-else-is_zero-2 c = omega (arith, up_only (value c.args.self) {b = value c.args.d} {n = c.divided-by.result.quotient + 1} (omega arith) (omega arith) (grind arith))
