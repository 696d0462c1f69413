-- `text::drawing_text` meets its contract.
use borrow.Author.Rules.{rules}
use Rattle.rules.specs.Beyond.{drawing_text}
use Rattle.rules.proofs.Fitting.{put_nothing, put_fitting}
use Rattle.text.proofs.Placing.{finished}
use Rattle.text.proofs.drawing_text.Goals as goal

pub returns-then-out-lt-LINE_ROOM : goal.returns-then-out-lt-LINE_ROOM
returns-then-out-lt-LINE_ROOM c = put_nothing _ _ c.if-out-lt-LINE_ROOM.true

pub returns-in-Err : goal.returns-in-Err
unfolding drawing_text
returns-in-Err c = rw c.in-Err.is c.refusal_text.ensures

pub returns : goal.returns
unfolding drawing_text
returns c =
    let room = c.if-out-lt-LINE_ROOM.false in
    rw c.in-Ok.is (put_fitting _ _ room (finished c.put_drawn.ensures c.new-line.ensures.unused c.new-line.ensures.as_it_was (search rules) room))
