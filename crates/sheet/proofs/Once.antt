-- Document 01, "How strictly it is promised": no second answer fits, and no second buffer, of each public entry.
use Rattle.whole.proofs.OnlyOne.{Once, agree, by_equation, lent, past}
use Rattle.sheet.specs.contracts as contracts
use Rattle.sheet.proofs as sheet

pub calculate : Once contracts.calculate.ended sheet.calculate.Reads.Asked sheet.calculate.Reads.Learnt
calculate = (λ _ _. tt, λ _ _ _ _ _ _ is its. (agree is.answered its.answered, past (lent (agree is.holds its.holds))))

pub text : Once contracts.text.ended sheet.text.Reads.Asked sheet.text.Reads.Learnt
text = (λ _ _. tt, λ _ _ _ _ _ _ is its. (agree is.counted its.counted, past (lent (agree is.holds its.holds))))

pub drawing : Once contracts.drawing.ended sheet.drawing.Reads.Asked sheet.drawing.Reads.Learnt
drawing = (λ _ _. tt, λ _ _ _ _ _ _ is its. by_equation is.answered its.answered)

pub rewrite : Once contracts.rewrite.ended sheet.rewrite.Reads.Asked sheet.rewrite.Reads.Learnt
rewrite = (λ _ _. tt, λ _ _ _ _ _ _ is its. (agree is.counted its.counted, past (lent (agree is.holds its.holds))))
