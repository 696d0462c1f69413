-- `whole::rounded_up` meets its contract: what the method of std gives is the one number that is enough, where one less would not be.
-- Assumes nothing.
use Rattle.std.proofs.Common.{◌≡◌, arith}
use Rattle.std.proofs.lemmas.Grind.{div_ceil_times}
use Rattle.whole.proofs.Rounded.{up_by_zero, up_only}
use Rattle.whole.proofs.rounded_up.Goals as goal

pub returns-then-b-eq0 : goal.returns-then-b-eq0
returns-then-b-eq0 c = let e : c.args.b ≡ 0 = omega arith in rw (e, up_by_zero)

pub returns-else-b-eq0 : goal.returns-else-b-eq0
returns-else-b-eq0 c =
    let given = c.args in
    let least = div_ceil_times given.a given.b (omega arith) in
    omega (arith, up_only given.a (omega arith) least.0 least.1)
