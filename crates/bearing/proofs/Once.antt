-- Document 01, "How strictly it is promised": no second answer fits, of the public entry.
use Rattle.whole.proofs.OnlyOne.{Once, by_equation}
use Rattle.bearing.specs.contracts as contracts
use Rattle.bearing.proofs as bearing

pub blocks : Once contracts.blocks.ended bearing.blocks.Reads.Asked bearing.blocks.Reads.Learnt
blocks = (λ _ _. tt, λ _ _ _ _ _ _. by_equation)
