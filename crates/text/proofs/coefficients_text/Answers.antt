-- `text::coefficients_text` meets its contract.
use borrow.Author.Rules.{rules}
use Rattle.rules.specs.Beyond.{line_room}
use Rattle.rules.specs.Coefficients.{coefficients_text}
use Rattle.rules.proofs.Fitting.{put_nothing, put_fitting}
use Rattle.text.specs.Placed.{Adds}
use Rattle.text.proofs.Placing.{finished}
use Rattle.text.proofs.coefficients_text.Goals.{in-Some, in-None}
use Rattle.text.proofs.coefficients_text.Goals as goal

pub returns-then-out-lt-LINE_ROOM : goal.returns-then-out-lt-LINE_ROOM
returns-then-out-lt-LINE_ROOM c = put_nothing _ _ c.if-out-lt-LINE_ROOM.true

pub returns : goal.returns
unfolding coefficients_text
returns c =
    let put : Adds line_room (coefficients_text c.args.soil) c.new-line.result c.match-soil.line =
    elim c.match-soil.branch [
      | in-Some w ↦ rw (w.line-is, w.in-Some.is) w.put_named.ensures
      | in-None w ↦ rw (w.line-is, w.in-None.is) w.put_refused.ensures
    ] in
    let room = c.if-out-lt-LINE_ROOM.false in
    put_fitting _ _ room (finished put c.new-line.ensures.unused c.new-line.ensures.as_it_was (search rules) room)
