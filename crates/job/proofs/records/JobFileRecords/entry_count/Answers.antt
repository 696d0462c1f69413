-- `job::records::JobFile` has as many entries as its header says.
use mathlib.Core.Path.{sym, ◌∙◌}
use Rattle.rules.proofs.AcceptedFile.{entries_length}
use Rattle.job.proofs.records.JobFileRecords.entry_count.Goals as goal

pub returns : goal.returns
returns c = c.load_count.ensures ∙ sym (entries_length _)
