-- `writing::lent::Lent` has each wall at its index.
use mathlib.Core.Path.{sym, ◌∙◌}
use Rattle.job.proofs.Numbers.{in_length, in_at}
use Rattle.writing.proofs.lent.LentRecords.wall_at.Goals as goal

pub returns : goal.returns
returns c h = let there = rw in_length at h in c.record_at.ensures there ∙ sym (in_at _ _ _ there)
