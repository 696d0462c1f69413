-- `forces::loaded::LoadedWall::table_at` meets its contract. What is put in place is the rules' table.
use native.Mathlib.Omega.{arith}
use Rattle.rules.specs.Forces.{weight_rows, push_rows, table}
use Rattle.rules.proofs.Accepted.{wall_height_lem}
use Rattle.forces.proofs.Fitted.{fitted}
use Rattle.forces.proofs.InPlace.{loads_small, in_place}
use Rattle.forces.proofs.loaded.LoadedWall.table_at.Goals as goal

pub invariant_of-face : goal.invariant_of-face
invariant_of-face c =
    let w = c.args.self.now.within in
    record { pressed = omega arith; low = omega (arith, wall_height_lem w); within = omega (arith, w); shallow = omega (arith, w.downstand_depth) }

pub returns : goal.returns
unfolding table
returns c = cc (in_place (weight_rows _) (push_rows _ _ _ _ _) _)

pub filled-requires : goal.filled-requires
filled-requires c = loads_small _ _ (fitted c.args.self.now)
