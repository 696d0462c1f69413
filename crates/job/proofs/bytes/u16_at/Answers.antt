-- `job::bytes::u16_at` meets its contract.
use native.Mathlib.Nat.{add-zero}
use native.Mathlib.Omega.{arith}
use Rattle.rules.specs.JobFile.{u16_at}
use Rattle.job.proofs.bytes.u16_at.Goals as goal

pub returns : goal.returns
unfolding u16_at
returns c = let first = rw add-zero at (c.bytes_at.ensures 0 (omega arith)) in omega (arith, c.from_le_bytes.ensures, first, c.bytes_at.ensures 1 (omega arith))
