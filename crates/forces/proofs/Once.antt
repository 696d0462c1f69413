-- Document 01, "How strictly it is promised": no second answer fits, of the public entry.
use Rattle.whole.proofs.OnlyOne.{Once, by_equation}
use Rattle.forces.specs.contracts as contracts
use Rattle.forces.proofs as forces

pub forces_on : Once contracts.forces_on.ended forces.forces_on.Reads.Asked forces.forces_on.Reads.Learnt
forces_on = (λ _ _. tt, λ _ _ _ _ _ _. by_equation)
