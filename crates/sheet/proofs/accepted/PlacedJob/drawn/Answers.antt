-- `sheet::accepted::PlacedJob::drawn` meets its contract: what bears the wall under the rows that are read bears it under its own loads.
use mathlib.Core.Path.{◌≡◌, refl, sym, ap}
use Prim.Native.Nat.{suc, ◌<◌}
use native.Mathlib.Omega.{arith}
use lib.Dec.{T}
use Rattle.std.specs.Prelude.{Ok, is_ok}
use Rattle.rules.specs.declared.Borne.{Borne}
use Rattle.rules.specs.JobFile.{wall_count, wall_at, entries, loads_on}
use Rattle.rules.specs.Answered.{accepted}
use Rattle.rules.specs.Bearing.{pressed_by}
use Rattle.rules.specs.Beyond.{worked_forces, worked_bearing}
use Rattle.rules.proofs.Doubles.{divided, shaped}
use Rattle.rules.proofs.Drawings.{drawn_is}
use Rattle.rules.proofs.Examined.{fit, wall_of_file}
use Rattle.sheet.proofs.Sheets.{borne_by}
use Rattle.sheet.proofs.accepted.PlacedJob.drawn.Goals.{After-blocks-2}
use Rattle.sheet.proofs.accepted.PlacedJob.drawn.Goals as goal

-- the job is accepted, and has the wall
there : (c : After-blocks-2) → let file = c.args.self.now.job.file.now in T (accepted file) × (c.args.i < wall_count file)
there c = let job = c.args.self.now.job in (rw job.accepted tt, omega (arith, job.counted))

-- the wall and its loads are borne as the rules have it
borne : (c : After-blocks-2) → let file = c.args.self.now.job.file.now in
    c.blocks-2.result ≡ Ok (worked_bearing (wall_at file c.args.i) (loads_on (suc c.args.i) (entries file)))
borne c =
    let placed = c.args.self.now in let job = placed.job in
    rw (c.blocks-2.ensures, c.loads_at-loads.ensures, c.wall_at-wall.ensures, placed.placed) (borne_by job.file.now c.args.i (there c).1 (there c).0)

pub unwrap-borne-requires : goal.unwrap-borne-requires
unwrap-borne-requires c = ap is_ok (borne (goal.at.unwrap-borne-requires c).After-blocks-2)

-- and that is what is given
given : (c : After-blocks-2) {given : Borne} → c.blocks-2.result ≡ Ok given → let file = c.args.self.now.job.file.now in
    given ≡ worked_bearing (wall_at file c.args.i) (loads_on (suc c.args.i) (entries file))
given c is = cc (is, borne c)

pub drawing_of-requires : goal.drawing_of-requires
unfolding worked_bearing worked_forces
drawing_of-requires c =
    let at = (goal.at.drawing_of-requires c).After-blocks-2 in
    rw (given at c.unwrap-borne.ensures) (divided _ _ (fit _ _ (wall_of_file _ (there at).0 _ (there at).1)))

pub shape_of-requires : goal.shape_of-requires
unfolding worked_bearing pressed_by
shape_of-requires c =
    let at = (goal.at.shape_of-requires c).After-blocks-2 in
    rw (given at c.unwrap-borne.ensures) (shaped _ _ (fit _ _ (wall_of_file _ (there at).0 _ (there at).1)), refl)

pub returns : goal.returns
unfolding worked_bearing worked_forces pressed_by
returns c =
    let at = (goal.at.returns c).After-blocks-2 in
    rw (c.shape_of.ensures, c.drawing_of.ensures, given at c.unwrap-borne.ensures) (sym (drawn_is _ (there at).0 _ (there at).1))
