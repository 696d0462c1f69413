-- `job::refusals::offsets_fit` meets its contract.
use Rattle.rules.specs.JobFile.{entries_at}
use Rattle.rules.specs.Answered.{offsets_fit}
use Rattle.job.proofs.refusals.offsets_fit.Goals as goal

pub returns : goal.returns
unfolding entries_at offsets_fit
returns c = cc
