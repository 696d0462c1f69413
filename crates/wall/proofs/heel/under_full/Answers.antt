-- `wall::heel::under_full` meets its contract: the heel is on the base, and the sums are the rule's.
use native.Mathlib.Omega.{arith}
use Rattle.rules.specs.JobFile.{base_length}
use Rattle.wall.proofs.UnderHeel.{full_action}
use Rattle.wall.proofs.heel.under_full.Goals as goal

pub shear_behind-requires : goal.shear_behind-requires
unfolding base_length
shear_behind-requires c = omega (arith, c.requires, c.heel_length.ensures)

pub moment_behind-requires : goal.moment_behind-requires
unfolding base_length
moment_behind-requires c = omega (arith, c.requires, c.twice_heel_arm.ensures)

pub returns : goal.returns
returns c =
    rw c.requires
    (full_action _ (omega arith) _ _ c.requires c.heel_length.ensures.0 c.twice_heel_arm.ensures.0 c.shear_behind.ensures c.moment_behind.ensures)
