-- `job::refusals::length_fits` meets its contract.
use Rattle.rules.specs.JobFile.{entries_at}
use Rattle.rules.specs.Answered.{length_fits}
use Rattle.job.proofs.refusals.length_fits.Goals as goal

pub returns : goal.returns
unfolding entries_at length_fits
returns c = cc
