-- `soil::table::sine` meets its contract: the table in the code is the one that is worked from 0.0 to 90.0 degrees, every digit of it.
use mathlib.Core.Path.{refl, ◌∙◌}
use Rattle.whole.specs.Rounding.{rounded_up, rounded_down, rounded_nearest}
use Rattle.rules.specs.Coefficients.{turned_by}
use Rattle.soil.proofs.Sines.{bounds_from, angles, looked_up}
use Rattle.soil.proofs.table.sine.Goals as goal

pub returns : goal.returns
unfolding angles bounds_from turned_by rounded_up rounded_down rounded_nearest
returns c = c.copied.ensures ∙ (rw c.from.ensures at (looked_up _ refl refl c.from.result c.get.result c.get.ensures.lookup))
