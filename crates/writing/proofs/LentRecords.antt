-- What it tells of two lent buffers that they fit.
use mathlib.Core.Bool.{and-eq-true_iff}
use mathlib.Core.List.{List}
use Prim.Native.Nat.{ℕ, ◌≤◌}
use native.Mathlib.Omega.{arith}
use lib.Dec.{T}
use lib.Ieee.Bits.{is_true}
use borrow.Author.Tests.{leb-true}
use Rattle.rules.specs.JobFile.{wall_fields, entry_fields, most_walls, most_loads}
use Rattle.rules.specs.WrittenFile.{record_count, records_fit}

-- there are no more walls, and no more loads, than a file may have
pub few_records : (walls loads : List ℕ) → T (records_fit walls loads) → (record_count wall_fields walls ≤ most_walls) × (record_count entry_fields loads ≤ most_loads)
unfolding records_fit
few_records walls loads t = omega (arith, leb-true, simp and-eq-true_iff at (is_true (records_fit walls loads) t))
