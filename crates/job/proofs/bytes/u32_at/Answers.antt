-- `job::bytes::u32_at` meets its contract.
use native.Mathlib.Nat.{add-zero, add_assoc}
use native.Mathlib.Omega.{arith}
use Rattle.rules.specs.JobFile.{u16_at, u32_at}
use Rattle.job.proofs.bytes.u32_at.Goals as goal

pub returns : goal.returns
unfolding u16_at u32_at
returns c =
    let its = c.bytes_at.ensures in
    let first = rw add-zero at (its 0 (omega arith)) in
    simp add_assoc (omega (arith, c.from_le_bytes.ensures, first, its 1 (omega arith), its 2 (omega arith), its 3 (omega arith)))
