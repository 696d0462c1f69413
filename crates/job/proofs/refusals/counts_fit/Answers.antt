-- `job::refusals::counts_fit` meets its contract.
use Rattle.rules.specs.Answered.{counts_fit}
use Rattle.job.proofs.refusals.counts_fit.Goals as goal

pub returns : goal.returns
unfolding counts_fit
returns c = cc
