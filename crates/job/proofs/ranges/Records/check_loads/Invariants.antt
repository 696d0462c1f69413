-- `job::ranges::Records::check_loads` meets its contract. The invariant: the loads before the index were passed, and are counted wall by wall.
use mathlib.Core.List.{[]}
use lib.ListN.{length}
use Rattle.rules.specs.Answered.{first_bad_load}
use Rattle.job.proofs.Judging.{at, Passed, load_answer_at}
use Rattle.job.proofs.Counting.{Counted}
use Rattle.job.proofs.ranges.Records.check_loads.Given as goal

abbrev pub invariant-loop-i : goal.invariant-loop-i
invariant-loop-i g l =
    let walls = g.Self.Records.walls l.self in
    let entries = g.Self.Records.entries l.self in
    Passed (first_bad_load walls [] 1 entries) (load_answer_at walls (at entries)) (length entries) l.i × Counted (at entries) l.i l.counts
