-- `sheet::accepted::AcceptedJob::of` meets its contract: past the test the job is accepted, and has no more walls than a job may have.
use mathlib.Core.Path.{◌≡◌}
use mathlib.Core.Bool.{true}
use native.Mathlib.Omega.{arith}
use borrow.Author.Rules.{rules}
use Rattle.rules.specs.Answered.{accepted}
use Rattle.rules.proofs.AcceptedFile.{wall_count_lem}
use Rattle.sheet.proofs.accepted.AcceptedJob.of.Goals as goal

pub invariant_of-result : goal.invariant_of-result
invariant_of-result c =
    let file = c.args.file.now in
    let worked : accepted file ≡ true = search rules in
    record { accepted = worked; counted = search rules; few = omega (arith, wall_count_lem file (rw worked tt), c.from.ensures, c.wall_count.ensures) }
