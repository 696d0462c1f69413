-- Document 01, "How strictly it is promised": no second answer fits, of each public entry.
use Rattle.std.proofs.Common.{refl}
use Rattle.whole.proofs.OnlyOne.{Once, by_equation}
use Rattle.wide.specs.contracts as contracts
use Rattle.wide.proofs as wide
use wide.Digits.{only}

-- ---- a wide number is told by its digits
pub from : Once contracts.WideFromU64.from.ended wide.WideFromU64.from.Reads.Asked wide.WideFromU64.from.Reads.Learnt
from = (λ _ _. tt, λ _ _ _ _ _ _ is its. (only is its, refl))

pub times : Once contracts.Wide.times.ended wide.Wide.times.Reads.Asked wide.Wide.times.Reads.Learnt
times = (λ _ _. tt, λ _ _ _ _ _ _ is its. (only is its, refl))

pub minus : Once contracts.Wide.minus.ended wide.Wide.minus.Reads.Asked wide.Wide.minus.Reads.Learnt
minus = (λ _ _. tt, λ _ _ _ _ _ _ is its. (only is its, refl))

-- ---- the others answer with a number of 64 bits, which of two is less, or yes or no
pub cmp : Once contracts.WideOrd.cmp.ended wide.WideOrd.cmp.Reads.Asked wide.WideOrd.cmp.Reads.Learnt
cmp = (λ _ _. tt, λ _ _ _ _ _ _. by_equation)

pub partial_cmp : Once contracts.WidePartialOrd.partial_cmp.ended wide.WidePartialOrd.partial_cmp.Reads.Asked wide.WidePartialOrd.partial_cmp.Reads.Learnt
partial_cmp = (λ _ _. tt, λ _ _ _ _ _ _. by_equation)

pub eq : Once contracts.WidePartialEq.eq.ended wide.WidePartialEq.eq.Reads.Asked wide.WidePartialEq.eq.Reads.Learnt
eq = (λ _ _. tt, λ _ _ _ _ _ _. by_equation)

pub quotient_down : Once contracts.Wide.quotient_down.ended wide.Wide.quotient_down.Reads.Asked wide.Wide.quotient_down.Reads.Learnt
quotient_down = (λ _ _. tt, λ _ _ _ _ _ _. by_equation)

pub quotient_up : Once contracts.Wide.quotient_up.ended wide.Wide.quotient_up.Reads.Asked wide.Wide.quotient_up.Reads.Learnt
quotient_up = (λ _ _. tt, λ _ _ _ _ _ _. by_equation)

pub share_down : Once contracts.share_down.ended wide.share_down.Reads.Asked wide.share_down.Reads.Learnt
share_down = (λ _ _. tt, λ _ _ _ _ _ _. by_equation)
