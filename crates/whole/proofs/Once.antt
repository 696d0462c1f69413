-- Document 01, "How strictly it is promised": no second answer fits, of each public entry.
use mathlib.Core.Path.{refl}
use Rattle.whole.specs.contracts as contracts
use Rattle.whole.proofs as whole
use whole.OnlyOne.{Once, by_equation}
use whole.Root.{root_only}

pub rounded_up_lem : Once contracts.rounded_up.ended whole.rounded_up.Reads.Asked whole.rounded_up.Reads.Learnt
rounded_up_lem = (λ _ _. tt, λ _ _ _ _ _ _. by_equation)

pub rounded_down_lem : Once contracts.rounded_down.ended whole.rounded_down.Reads.Asked whole.rounded_down.Reads.Learnt
rounded_down_lem = (λ _ _. tt, λ _ _ _ _ _ _. by_equation)

pub rounded_nearest_lem : Once contracts.rounded_nearest.ended whole.rounded_nearest.Reads.Asked whole.rounded_nearest.Reads.Learnt
rounded_nearest_lem = (λ _ _. tt, λ _ _ _ _ _ _. by_equation)

pub greater : Once contracts.greater.ended whole.greater.Reads.Asked whole.greater.Reads.Learnt
greater = (λ _ _. tt, λ _ _ _ _ _ _. by_equation)

pub excess : Once contracts.excess.ended whole.excess.Reads.Asked whole.excess.Reads.Learnt
excess = (λ _ _. tt, λ _ _ _ _ _ _. by_equation)

pub above_zero : Once contracts.above_zero.ended whole.above_zero.Reads.Asked whole.above_zero.Reads.Learnt
above_zero = (λ _ _. tt, λ _ _ _ _ _ _. by_equation)

-- of two numbers that are both the root, neither is greater
pub square_root : Once contracts.square_root.ended whole.square_root.Reads.Asked whole.square_root.Reads.Learnt
square_root = (λ _ _. tt, λ _ given _ _ _ _ is its. (root_only given.0 is its, refl))
