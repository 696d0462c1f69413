-- Document 01, "How strictly it is promised": no second answer fits, and no second buffer, of each function of the library for C.
use Rattle.whole.proofs.OnlyOne.{Once, agree, by_equation, lent, past, also}
use Rattle.office_c.specs.contracts as contracts
use Rattle.office_c.proofs as office_c

pub office_calculate : Once contracts.office_calculate.ended office_c.office_calculate.Reads.Asked office_c.office_calculate.Reads.Learnt
office_calculate = (λ _ _. tt, λ _ _ _ _ _ _ is its. (agree is.answered.is its.answered.is, past (lent (agree is.holds its.holds))))

pub office_text : Once contracts.office_text.ended office_c.office_text.Reads.Asked office_c.office_text.Reads.Learnt
office_text = (λ _ _. tt, λ _ _ _ _ _ _ is its. (agree is.counted its.counted, past (lent (agree is.holds its.holds))))

pub office_drawing : Once contracts.office_drawing.ended office_c.office_drawing.Reads.Asked office_c.office_drawing.Reads.Learnt
office_drawing = (λ _ _. tt, λ _ _ _ _ _ _ is its. (agree is.answered.is its.answered.is, past (past (lent (agree is.holds its.holds)))))

pub office_write : Once contracts.office_write.ended office_c.office_write.Reads.Asked office_c.office_write.Reads.Learnt
office_write = (λ _ _. tt, λ _ _ _ _ _ _ is its. (agree is.answered.is its.answered.is, past (past (lent (agree is.holds its.holds)))))

pub office_records : Once contracts.office_records.ended office_c.office_records.Reads.Asked office_c.office_records.Reads.Learnt
office_records = (
  λ _ _. tt,
  λ _ _ _ _ _ _ is its. (
    agree is.answered.is its.answered.is,
    past (also (agree is.walls_held its.walls_held) (lent (agree is.loads_held its.loads_held))),
  ),
)

pub office_has_failed : Once contracts.office_has_failed.ended office_c.office_has_failed.Reads.Asked office_c.office_has_failed.Reads.Learnt
office_has_failed = (λ _ _. tt, λ _ _ _ _ _ _. by_equation)
