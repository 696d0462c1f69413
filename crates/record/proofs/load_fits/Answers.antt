-- `record::load_fits` meets its contract. Each answer follows from the tests that led to it.
use Rattle.std.proofs.Common.{arith}
use Rattle.std.proofs.lemmas.Bool.Decides.{nat_tests}
use Rattle.rules.specs.JobFile.{load_fits}
use Rattle.record.proofs.load_fits.Goals as goal

pub returns-then-load-le-GREATEST_LOAD : goal.returns-then-load-le-GREATEST_LOAD
unfolding load_fits
returns-then-load-le-GREATEST_LOAD c = grind (arith, nat_tests)

pub returns-else-load-le-GREATEST_LOAD : goal.returns-else-load-le-GREATEST_LOAD
unfolding load_fits
returns-else-load-le-GREATEST_LOAD c = grind (arith, nat_tests)
