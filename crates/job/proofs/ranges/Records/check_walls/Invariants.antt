-- `job::ranges::Records::check_walls` meets its contract. The invariant: the walls before the index were passed.
use lib.ListN.{length}
use Rattle.rules.specs.Answered.{first_bad_wall}
use Rattle.job.proofs.Judging.{at, Passed, wall_answer_at}
use Rattle.job.proofs.ranges.Records.check_walls.Given as goal

abbrev pub invariant-loop-i : goal.invariant-loop-i
invariant-loop-i g l = let walls = g.Self.Records.walls l.self in Passed (first_bad_wall 1 walls) (wall_answer_at (at walls)) (length walls) l.i
