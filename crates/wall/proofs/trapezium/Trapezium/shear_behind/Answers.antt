-- `wall::trapezium::Trapezium::shear_behind` meets its contract: two divisions that are rounded down are one.
use mathlib.Core.Path.{◌∙◌}
use Rattle.whole.proofs.Rounded.{down_twice}
use Rattle.wall.proofs.trapezium.Trapezium.shear_behind.Goals as goal

pub returns : goal.returns
returns c = c.rounded_down.ensures ∙ rw c.share.ensures (down_twice _ _ _)
