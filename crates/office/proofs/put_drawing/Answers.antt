-- `office::put_drawing` meets its contract: each answer follows from the tests that led to it.
use borrow.Author.Rules.{rules}
use Rattle.office.proofs.Lent.{refused, too_short, all_drawn}
use Rattle.office.proofs.put_drawing.Goals as goal

pub returns-in_err-drawn : goal.returns-in_err-drawn
returns-in_err-drawn c = refused (rw c.in_err-drawn.was at c.drawing.ensures) (search rules)

pub returns-then-out-lt-FIGURE_ROOM : goal.returns-then-out-lt-FIGURE_ROOM
returns-then-out-lt-FIGURE_ROOM c = too_short (rw c.in_ok-drawn.was at c.drawing.ensures) c.if-out-lt-FIGURE_ROOM.true

pub returns : goal.returns
returns c = all_drawn (rw c.in_ok-drawn.was at c.drawing.ensures) c.if-out-lt-FIGURE_ROOM.false c.put_figures.ensures c.shape_number.ensures.0
