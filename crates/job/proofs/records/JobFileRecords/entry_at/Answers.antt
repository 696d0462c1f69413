-- `job::records::JobFile` has each entry at its index.
use mathlib.Core.Path.{sym, ◌∙◌}
use Rattle.rules.proofs.AcceptedFile.{entries_length, entry_at_lem}
use Rattle.job.proofs.records.JobFileRecords.entry_at.Goals as goal

pub returns : goal.returns
returns c h = c.entry_at.ensures ∙ sym (entry_at_lem _ _ (rw entries_length at h))
