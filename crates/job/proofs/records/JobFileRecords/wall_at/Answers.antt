-- `job::records::JobFile` has each wall at its index.
use mathlib.Core.Path.{sym, ◌∙◌}
use Rattle.rules.proofs.AcceptedFile.{walls_length, wall_at_lem}
use Rattle.job.proofs.records.JobFileRecords.wall_at.Goals as goal

pub returns : goal.returns
returns c h = c.wall_at.ensures ∙ sym (wall_at_lem _ _ (rw walls_length at h))
