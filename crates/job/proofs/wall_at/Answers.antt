-- `job::wall_at` meets its contract.
use Rattle.rules.specs.JobFile.{wall_at}
use Rattle.job.proofs.wall_at.Goals as goal

pub returns : goal.returns
unfolding wall_at
returns c = cc
