-- `job::records::JobFile` has as many walls as its header says.
use mathlib.Core.Path.{sym, ◌∙◌}
use Rattle.rules.proofs.AcceptedFile.{walls_length}
use Rattle.job.proofs.records.JobFileRecords.wall_count.Goals as goal

pub returns : goal.returns
returns c = c.wall_count.ensures ∙ sym (walls_length _)
