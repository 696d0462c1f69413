-- `forces::loaded::LoadedWall::table_of_stem` meets its contract. The water above the base's top stands within the stem's height, and the loads on the stem are small.
use native.Mathlib.Omega.{arith}
use Rattle.rules.specs.Forces.{push_rows}
use Rattle.rules.proofs.Sizes.{stem_face_lem}
use Rattle.forces.specs.Tables.{no_weights, stem_in_place}
use Rattle.forces.proofs.Fitted.{fitted}
use Rattle.forces.proofs.InPlace.{loads_small, in_place}
use Rattle.forces.proofs.OnStem.{stem_fit}
use Rattle.forces.proofs.loaded.LoadedWall.table_of_stem.Goals as goal

pub invariant_of-face : goal.invariant_of-face
invariant_of-face c =
    let w = c.args.self.now.within in
    let face = stem_face_lem w in
    record { pressed = omega (arith, w); low = omega arith; within = omega arith; shallow = omega arith }

pub filled-requires : goal.filled-requires
filled-requires c = rw c.loads_on_stem.ensures (loads_small _ _ (stem_fit _ _ _ (fitted c.args.self.now)))

pub returns : goal.returns
unfolding stem_in_place
returns c = cc (in_place no_weights (push_rows _ _ _ _ 0) _)
