-- `job::bytes::read_inside` meets its contract. The invariant: the numbers passed are read.
use lib.ListN.{length}
use Rattle.whole.proofs.Indexed.{Filled}
use Rattle.rules.specs.JobFile.{u32s_at}
use Rattle.job.proofs.bytes.read_inside.Given as goal

abbrev pub invariant-loop-k : goal.invariant-loop-k
invariant-loop-k l = let n = length l.initial.numbers in Filled (u32s_at l.bytes 0 n) n l.k l.numbers
