-- `forces::loaded::LoadedWall::friction_under` meets its contract. What lasts is a signed number, which is read back from its bits.
use mathlib.Core.Path.{◌≡◌, ap, ◌∙◌}
use mir.Facts.{to_z-of_z}
use Rattle.whole.specs.Parts.{above_zero}
use Rattle.rules.specs.Forces.{friction_under}
use Rattle.forces.proofs.loaded.LoadedWall.friction_under.Goals.{After-above_zero}
use Rattle.forces.proofs.loaded.LoadedWall.friction_under.Goals as goal

-- what is multiplied is the part above 0 of what lasts
lasting_is : (c : After-above_zero) → c.above_zero.result ≡ above_zero c.args.lasting
lasting_is c = c.above_zero.ensures ∙ ap above_zero (to_z-of_z c.ranges.lasting)

pub returns : goal.returns
unfolding friction_under
returns c = rw (lasting_is (goal.at.returns c).After-above_zero, c.field.ensures.0) at c.rounded_down.ensures
