-- `sheet::text` meets its contract.
use native.Mathlib.Omega.{arith}
use Rattle.rules.specs.SheetLine.{printed}
use Rattle.rules.specs.Beyond.{line_room, sheet_room}
use Rattle.rules.proofs.Fitting.{put_nothing, put_fitting, put_whole}
use Rattle.sheet.proofs.text.Goals as goal

pub returns-then-out-lt-SHEET_ROOM : goal.returns-then-out-lt-SHEET_ROOM
returns-then-out-lt-SHEET_ROOM c = put_nothing _ _ c.if-out-lt-SHEET_ROOM.true

pub returns-in-Ok : goal.returns-in-Ok
returns-in-Ok c = put_fitting sheet_room _ c.if-out-lt-SHEET_ROOM.false (rw c.in-Ok.ensures at c.put_texts.ensures)

pub returns-in-Err : goal.returns-in-Err
unfolding printed
returns-in-Err c =
    let refused = c.in-Err.ensures in
    put_fitting sheet_room _ c.if-out-lt-SHEET_ROOM.false (rw refused (put_whole line_room _ (omega arith) c.refusal_text.ensures))
