-- Document 01, "How strictly it is promised": no second answer fits, of each public entry.
use Rattle.text.specs.contracts as contracts
use Rattle.text.proofs as text
use Rattle.whole.proofs.OnlyOne.{Once, agree, lent, past}

pub line_text_lem : Once contracts.line_text.ended text.line_text.Reads.Asked text.line_text.Reads.Learnt
line_text_lem = (λ _ _. tt, λ _ _ _ _ _ _ is its. (agree is.counted its.counted, past (lent (agree is.holds its.holds))))

pub refusal_text_lem : Once contracts.refusal_text.ended text.refusal_text.Reads.Asked text.refusal_text.Reads.Learnt
refusal_text_lem = (λ _ _. tt, λ _ _ _ _ _ _ is its. (agree is.counted its.counted, past (lent (agree is.holds its.holds))))

pub drawing_text_lem : Once contracts.drawing_text.ended text.drawing_text.Reads.Asked text.drawing_text.Reads.Learnt
drawing_text_lem = (λ _ _. tt, λ _ _ _ _ _ _ is its. (agree is.counted its.counted, past (lent (agree is.holds its.holds))))

pub coefficients_text_lem : Once contracts.coefficients_text.ended text.coefficients_text.Reads.Asked text.coefficients_text.Reads.Learnt
coefficients_text_lem = (λ _ _. tt, λ _ _ _ _ _ _ is its. (agree is.counted its.counted, past (lent (agree is.holds its.holds))))
