-- `job::places` meets its contract. The invariant: the table is that of the entries passed.
use Prim.Native.Nat.{◌≤◌}
use Rattle.job.proofs.PlacesOfLoads.{Placed}
use Rattle.job.proofs.places.Given as goal

abbrev pub invariant-loop-i : goal.invariant-loop-i
invariant-loop-i l = (l.i ≤ l.loads) × Placed l.file l.i l.table
