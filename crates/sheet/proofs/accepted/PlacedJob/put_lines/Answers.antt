-- `sheet::accepted::PlacedJob::put_lines` meets its contract. The invariant: the lines of the walls that were passed are put.
use mathlib.Core.Path.{◌≡◌}
use Prim.Native.Nat.{◌+◌, ◌*◌}
use native.Mathlib.Omega.{arith}
use Rattle.rules.specs.SheetLine.{line_numbers}
use Rattle.rules.proofs.Pieces.{none_put, all_put}
use Rattle.sheet.proofs.Sheets.{sheet_length, line_sixteen, copied}
use Rattle.sheet.proofs.accepted.PlacedJob.put_lines.Goals as goal

pub loop-i-init : goal.loop-i-init
loop-i-init c = none_put

pub loop-i-preserved : goal.loop-i-preserved
loop-i-preserved c =
    let job = c.args.self.now.job in
    let loop = c.loop-i in
    let next : line_numbers * (loop.i + 1) ≡ line_numbers * loop.i + line_numbers = omega arith in
    let long = line_sixteen job.file.now loop.i (omega (arith, job.counted)) in
    rw next (copied loop.invariant (omega (arith, sheet_length job.file.now, job.counted)) (rw c.line.ensures at c.copy_from_slice.ensures.after) long (omega (arith, c.requires)))

pub returns : goal.returns
returns c =
    let job = c.args.self.now.job in
    (all_put c.loop-i.invariant (omega (arith, sheet_length job.file.now, job.counted))).holds
