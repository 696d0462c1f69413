-- Document 01, "How strictly it is promised": no second answer fits, of each public entry.
use Rattle.whole.proofs.OnlyOne.{Once, by_equation}
use Rattle.wall.specs.contracts as contracts
use Rattle.wall.proofs as wall

pub line : Once contracts.line.ended wall.line.Reads.Asked wall.line.Reads.Learnt
line = (λ _ _. tt, λ _ _ _ _ _ _. by_equation)
