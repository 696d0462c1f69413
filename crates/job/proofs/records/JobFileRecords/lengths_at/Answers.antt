-- `job::records::JobFile` has the lengths of each wall: they are five fields behind the first.
use mathlib.Core.Path.{◌≡◌}
use mathlib.Core.List.{◌∷◌, ◌++◌}
use Prim.Native.Nat.{ℕ, ◌+◌, ◌-◌}
use native.Mathlib.Nat.{add_assoc}
use lib.ListN.{replicate}
use Rattle.rules.specs.JobFile.{File, wall_fields, u32s_at, wall_at}
use Rattle.rules.proofs.AcceptedFile.{walls_length, wall_at_lem}
use Rattle.job.specs.Lengths.{lengths_of}
use Rattle.job.proofs.records.JobFileRecords.lengths_at.Goals as goal

five : (file : File) (at : ℕ) → 0 ∷ (u32s_at file (at + 4) 5 ++ replicate (wall_fields - 6) 0) ≡ lengths_of (u32s_at file at wall_fields)
unfolding u32s_at lengths_of
five file at = simp add_assoc

pub returns : goal.returns
unfolding wall_at
returns c h = rw (wall_at_lem _ _ (rw walls_length at h), c.read_u32s.ensures, c.walls_end.ensures.0) (five _ _)
