-- `job::records::entry_at` meets its contract.
use Rattle.rules.specs.JobFile.{entries_at, entry_at}
use Rattle.job.proofs.records.entry_at.Goals as goal

pub returns : goal.returns
unfolding entries_at entry_at
returns c = cc
