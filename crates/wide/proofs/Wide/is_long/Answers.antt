-- `wide::Wide::is_long` meets its contract: the upper two digits tell whether the base times d goes into the number.
use Rattle.std.proofs.Common.{arith}
use Rattle.std.proofs.lemmas.Bool.Decides.{nat_tests}
use Rattle.wide.specs.Value.{base}
use Rattle.wide.proofs.Digits.{split}
use Rattle.wide.proofs.Wide.is_long.Goals as goal

pub returns : goal.returns
unfolding base
returns c = grind (arith, nat_tests, split c.args.self)
