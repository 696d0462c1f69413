-- `wide::Wide::product_of` meets its contract: it is one row, and nothing is carried into it.
use Rattle.std.proofs.Common.{arith, rules}
use Rattle.wide.specs.Value.{base, value}
use Rattle.wide.proofs.Wide.product_of.Goals as goal

pub returns : goal.returns
unfolding base value
returns c = record { same = omega (arith, c); digits = search rules }
