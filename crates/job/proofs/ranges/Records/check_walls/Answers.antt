-- `job::ranges::Records::check_walls` meets its contract. The invariant: the walls before the index were passed.
use Rattle.std.proofs.Common.{rules}
use native.Mathlib.Omega.{arith}
use Rattle.job.proofs.Judging.{all_passed, refused, one_passed, no_wall_passed}
use Rattle.job.proofs.ranges.Records.check_walls.Goals as goal

pub loop-i-init : goal.loop-i-init
loop-i-init g c = no_wall_passed _

pub returns-in_err-wall_answer : goal.returns-in_err-wall_answer
returns-in_err-wall_answer g c =
    let is = rw (c.wall_at.ensures (omega arith), c.from.ensures) at c.wall_answer.ensures in
    refused c.loop-i.invariant (omega arith) is c.in_err-wall_answer.was (search rules)

pub loop-i-preserved : goal.loop-i-preserved
loop-i-preserved g c =
    let is = rw (c.wall_at.ensures (omega arith), c.from.ensures) at c.wall_answer.ensures in
    one_passed c.loop-i.invariant (omega arith) is c.in_ok-wall_answer.was

pub returns : goal.returns
returns g c = all_passed c.loop-i.invariant (omega arith)
