-- `forces::loaded::LoadedWall::loads_on_stem` meets its contract. Each of the eight calls gives the load as the stem has it.
use native.Mathlib.Omega.{arith}
use Rattle.std.proofs.lemmas.Grind.{common_steps}
use Rattle.forces.proofs.loaded.LoadedWall.loads_on_stem.Goals as goal

pub returns : goal.returns
returns c = grind (arith, common_steps)
