-- `job::loads_at` meets its contract. The invariant: the loads at the places passed are read.
use Rattle.whole.proofs.Indexed.{Filled}
use Rattle.rules.specs.JobFile.{most_loads_on_wall}
use Rattle.job.specs.Places.{loads_at}
use Rattle.job.proofs.loads_at.Given as goal

abbrev pub invariant-loop-i : goal.invariant-loop-i
invariant-loop-i l = Filled (loads_at l.file l.number-items) most_loads_on_wall l.i l.loads
