-- `forces::loaded::LoadedWall::push_rows` meets its contract. How great a push is and how high it acts is within what a component takes.
use native.Mathlib.Omega.{arith}
use Rattle.rules.proofs.Sizes.{pushed}
use Rattle.forces.proofs.loaded.LoadedWall.push_rows.Goals as goal

pub across-requires : goal.across-requires
across-requires c = let f = c.args.face in omega (arith, pushed c.args.self.now.within _ _ _ f.pressed f.low f.within)
