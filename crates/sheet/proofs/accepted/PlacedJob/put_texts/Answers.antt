-- `sheet::accepted::PlacedJob::put_texts` meets its contract. The invariant: the texts of the walls that were passed are put.
use Prim.Native.Nat.{◌≤◌}
use mathlib.Core.List.{map, []}
use native.Mathlib.Omega.{arith}
use lib.ListN.{length-map, get_or}
use Rattle.rules.specs.SheetLine.{sheet, line_text, printed}
use Rattle.rules.specs.Beyond.{line_room, Put}
use Rattle.rules.proofs.Putting.{behind}
use Rattle.rules.proofs.Pieces.{none_put, room_behind, one_further, all_put}
use Rattle.sheet.proofs.Sheets.{sheet_length, text_put}
use Rattle.sheet.proofs.accepted.PlacedJob.put_texts.Goals.{After-slice_known-in-loop-i-1}
use Rattle.sheet.proofs.accepted.PlacedJob.put_texts.Goals as goal

pub loop-i-init : goal.loop-i-init
loop-i-init c = (omega arith, none_put)

-- the next text is put whole, and fits
put : (c : After-slice_known-in-loop-i-1) → let loop = c.loop-i in let call = c.line_text-used in
    Put (get_or (map line_text (sheet c.args.self.now.job.file.now)) loop.i []) (behind loop.used loop.out) call.result call.new.out × (call.result ≤ line_room)
put c =
    let job = c.args.self.now.job in
    text_put _ _ (omega (arith, job.counted)) (rw job.accepted tt) (room_behind c.loop-i.invariant.1 (omega arith))
    (rw c.line-numbers.ensures at c.line_text-used.ensures)

pub overflow_add-used : goal.overflow_add-used
overflow_add-used c = omega (arith, (put (goal.at.overflow_add-used c).After-slice_known-in-loop-i-1).1)

pub loop-i-preserved : goal.loop-i-preserved
loop-i-preserved c =
    let job = c.args.self.now.job in
    let text = put (goal.at.loop-i-preserved c).After-slice_known-in-loop-i-1 in (
      omega (arith, text.1),
      one_further c.loop-i.invariant.1 (omega (arith, length-map (sheet job.file.now) line_text, sheet_length job.file.now, job.counted)) (omega (arith, text.1)) text.0,
    )

pub returns : goal.returns
unfolding printed
returns c =
    let job = c.args.self.now.job in
    rw job.accepted (all_put c.loop-i.invariant.1 (omega (arith, length-map (sheet job.file.now) line_text, sheet_length job.file.now, job.counted)))
