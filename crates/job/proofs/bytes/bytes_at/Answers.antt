-- `job::bytes::bytes_at` meets its contract.
use Rattle.job.proofs.Numbers.{near_end}
use Rattle.job.proofs.bytes.bytes_at.Goals as goal

pub returns : goal.returns
returns g c k h = rw c.copy_from_slice.ensures.after (near_end _ _ _ _ k c.min.ensures c.in_default.ensures.cases h)
