-- `bearing::block::pressed_by` meets its contract: small totals make a block that can be reported.
use Rattle.bearing.proofs.Reports.{reportable}
use Rattle.bearing.proofs.block.pressed_by.Goals as goal

pub pressed-requires : goal.pressed-requires
pressed-requires c = rw c.block_of.ensures (reportable _ _ _ _ c.requires.least c.requires.scaled)
