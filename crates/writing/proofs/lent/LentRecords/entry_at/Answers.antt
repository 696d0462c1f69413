-- `writing::lent::Lent` has each entry at its index.
use mathlib.Core.Path.{sym, ◌∙◌}
use Rattle.job.proofs.Numbers.{in_length, in_at}
use Rattle.writing.proofs.lent.LentRecords.entry_at.Goals as goal

pub returns : goal.returns
returns c h = let there = rw in_length at h in c.record_at.ensures there ∙ sym (in_at _ _ _ there)
