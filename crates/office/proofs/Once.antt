-- Document 01, "How strictly it is promised": no second answer fits, and no second buffer, of each function for C.
use Rattle.whole.proofs.OnlyOne.{Once, agree, by_equation, lent, past, also}
use Rattle.office.specs.contracts as contracts
use Rattle.office.proofs as office

pub office_calculate : Once contracts.office_calculate.ended office.office_calculate.Reads.Asked office.office_calculate.Reads.Learnt
office_calculate = (λ _ _. tt, λ _ _ _ _ _ _ is its. (agree is.answered.is its.answered.is, past (lent (agree is.holds its.holds))))

pub office_text : Once contracts.office_text.ended office.office_text.Reads.Asked office.office_text.Reads.Learnt
office_text = (λ _ _. tt, λ _ _ _ _ _ _ is its. (agree is.counted its.counted, past (lent (agree is.holds its.holds))))

pub office_drawing : Once contracts.office_drawing.ended office.office_drawing.Reads.Asked office.office_drawing.Reads.Learnt
office_drawing = (λ _ _. tt, λ _ _ _ _ _ _ is its. (agree is.answered.is its.answered.is, past (past (lent (agree is.holds its.holds)))))

pub office_write : Once contracts.office_write.ended office.office_write.Reads.Asked office.office_write.Reads.Learnt
office_write = (λ _ _. tt, λ _ _ _ _ _ _ is its. (agree is.answered.is its.answered.is, past (past (lent (agree is.holds its.holds)))))

pub office_records : Once contracts.office_records.ended office.office_records.Reads.Asked office.office_records.Reads.Learnt
office_records = (
  λ _ _. tt,
  λ _ _ _ _ _ _ is its. (
    agree is.answered.is its.answered.is,
    past (also (agree is.walls_held its.walls_held) (lent (agree is.loads_held its.loads_held))),
  ),
)

pub office_has_failed : Once contracts.office_has_failed.ended office.office_has_failed.Reads.Asked office.office_has_failed.Reads.Learnt
office_has_failed = (λ _ _. tt, λ _ _ _ _ _ _. by_equation)
