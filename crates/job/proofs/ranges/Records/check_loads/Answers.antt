-- `job::ranges::Records::check_loads` meets its contract. The invariant: the loads before the index were passed, and are counted wall by wall.
use Rattle.std.proofs.Common.{rules}
use native.Mathlib.Omega.{arith}
use Rattle.job.proofs.Judging.{at, all_passed, refused, one_passed, no_load_passed}
use Rattle.job.proofs.Counting.{none_counted, Met, its_answer, has_room, one_counted}
use Rattle.job.proofs.ranges.Records.check_loads.Given.{Over}
use Rattle.job.proofs.ranges.Records.check_loads.Goals.{After-load_answer}
use Rattle.job.proofs.ranges.Records.check_loads.Goals as goal

pub loop-i-init : goal.loop-i-init
loop-i-init g c = (no_load_passed _ _, none_counted _)

-- the load that is answered
met : (g : Over) (c : After-load_answer g)
    → Met (g.Self.Records.walls c.args.self.now) (at (g.Self.Records.entries c.args.self.now)) c.loop-i.i c.loop-i.counts c.entry_at-entry.result
    c.count_on-passed.result c.load_answer.result
met g c =
    record {
      few = g.met.Self.Records.few_walls c.args.self.now;
      counted = c.loop-i.invariant.1;
      its = c.entry_at-entry.ensures (omega arith);
      count = c.count_on-passed.ensures;
      answered = rw (← c.entry_fits.ensures) c.load_answer.ensures;
    }

pub loop-i-preserved : goal.loop-i-preserved
loop-i-preserved g c =
    let answered = met g (goal.at.loop-i-preserved g c).After-load_answer in
    (one_passed c.loop-i.invariant.0 (omega arith) (its_answer answered) c.in_ok-load_answer.was, one_counted answered c.in_ok-load_answer.was)

pub returns-in_err-load_answer : goal.returns-in_err-load_answer
returns-in_err-load_answer g c =
    refused c.loop-i.invariant.0 (omega arith) (its_answer (met g (goal.at.returns-in_err-load_answer g c).After-load_answer)) c.in_err-load_answer.was (search rules)

pub returns : goal.returns
returns g c = all_passed c.loop-i.invariant.0 (omega arith)

pub bounds-counts-number : goal.bounds-counts-number
bounds-counts-number g c =
    omega (arith, has_room (met g (goal.at.bounds-counts-number g c).After-load_answer) c.in_ok-load_answer.was)
