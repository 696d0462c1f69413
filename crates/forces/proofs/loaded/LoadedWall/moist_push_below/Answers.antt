-- `forces::loaded::LoadedWall::moist_push_below` meets its contract. The density and the two heights are small by their ranges.
use native.Mathlib.Nat.{mul_assoc}
use Rattle.rules.specs.Forces.{moist_push_below}
use Rattle.forces.proofs.loaded.LoadedWall.moist_push_below.Goals as goal

pub returns : goal.returns
unfolding moist_push_below
returns c = rw (c.field-density.ensures.0, ← mul_assoc) at c.push.ensures
