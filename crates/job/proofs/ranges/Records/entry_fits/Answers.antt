-- `job::ranges::Records::entry_fits` meets its contract. A load is judged by the lengths of its own wall.
use Prim.Native.Nat.{◌-◌, ◌<◌}
use native.Mathlib.Omega.{arith}
use borrow.Author.Tests.{le-leb, lt-leb}
use lib.ListN.{length, get_or}
use Rattle.rules.specs.Answered.{entry_fits}
use Rattle.job.proofs.Judging.{at, by_lengths}
use Rattle.job.proofs.ranges.Records.entry_fits.Goals.{then-number-lt1-via-then-number-lt1, then-number-lt1-via-else-number-lt1+then-from-number}
use Rattle.job.proofs.ranges.Records.entry_fits.Goals as goal

pub returns-then-number-lt1 : goal.returns-then-number-lt1
unfolding entry_fits
returns-then-number-lt1 g c =
    elim c.then-number-lt1.branch [
      | then-number-lt1-via-then-number-lt1 w ↦ rw (lt-leb _ _ w.if-number-lt1.true)
      | then-number-lt1-via-else-number-lt1+then-from-number w ↦
          rw (← w.wall_count.ensures, ← w.from.ensures, le-leb _ _ w.if-number-lt1.false, lt-leb _ _ w.if-from-number.true)
    ]

pub returns : goal.returns
unfolding entry_fits
returns g c =
    let walls = g.Self.Records.walls c.args.self.now in
    let number = get_or c.args.entry 0 0 in
    let there : number - 1 < length walls = omega arith in
    rw (
      ← c.wall_count.ensures,
      ← c.from.ensures,
      le-leb _ _ c.if-number-lt1.false,
      le-leb _ _ c.if-from-number.false,
      ← by_lengths (at walls (number - 1)),
      ← c.lengths_at.ensures there,
      ← c.load_of.ensures,
    )
    c.load_fits.ensures
