-- `wall::trapezium::share` meets its contract: the quotient of n and what is left of it are multiplied each by itself.
use Rattle.whole.proofs.Rounded.{down_by_parts}
use Rattle.wall.proofs.trapezium.share.Goals as goal

pub returns : goal.returns
returns c = down_by_parts _ _ c.requires.0
