-- `Wide::from` meets its contract: the other two digits are 0.
use Rattle.std.proofs.Common.{rules}
use Rattle.wide.specs.Value.{value}
use Rattle.wide.proofs.WideFromU64.from.Goals as goal

pub returns : goal.returns
unfolding value
returns c = search rules
