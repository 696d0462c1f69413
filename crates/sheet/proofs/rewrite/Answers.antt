-- `sheet::rewrite` meets its contract.
use mathlib.Core.Path.{◌≡◌, refl, sym}
use mathlib.Core.Bool.{true}
use Prim.Native.Nat.{ℕ, ◌≤◌}
use native.Mathlib.Omega.{arith}
use lib.ListN.{length}
use lib.Seq.{length-take-le}
use Rattle.std.specs.Prelude.{Result, Ok, Err, is_ok, IsOkAnd}
use Rattle.rules.specs.declared.Refusal.{Refusal}
use Rattle.rules.specs.Beyond.{Put, line_room}
use Rattle.rules.specs.WrittenFile.{file_room, rewritten}
use Rattle.rules.proofs.Fitting.{put_nothing, put_fitting, put_whole}
use Rattle.rules.proofs.Putting.{put_within}
use Rattle.rules.proofs.Rewritten.{records_taken, written_again, refusal_printed, rewritten_small}
use Rattle.sheet.proofs.rewrite.Goals.{After-write}
use Rattle.sheet.proofs.rewrite.Goals as goal

pub returns-then-out-lt-FILE_ROOM : goal.returns-then-out-lt-FILE_ROOM
returns-then-out-lt-FILE_ROOM c = put_nothing _ _ c.if-out-lt-FILE_ROOM.true

pub returns-in-Err : goal.returns-in-Err
returns-in-Err c =
    let room = c.if-out-lt-FILE_ROOM.false in
    put_fitting file_room _ room
    (rw (← refusal_printed c.in-Err.ensures (omega arith) (omega arith)) (put_whole line_room _ (omega (arith, room)) c.refusal_text.ensures))

-- how many numbers of each buffer are records
pub slice_bounds-walls-end : goal.slice_bounds-walls-end
slice_bounds-walls-end c = put_within (records_taken c.in-Ok.ensures).1

pub slice_bounds-write-end : goal.slice_bounds-write-end
slice_bounds-write-end c = sym (length-take-le _ _ (put_within (records_taken c.in-Ok.ensures).1))

pub slice_bounds-loads-end : goal.slice_bounds-loads-end
slice_bounds-loads-end c = put_within (records_taken c.in-Ok.ensures).2

pub slice_bounds-write-end-2 : goal.slice_bounds-write-end-2
slice_bounds-write-end-2 c = sym (length-take-le _ _ (put_within (records_taken c.in-Ok.ensures).2))

-- the file is written, and is what is printed
is_ok_and : (w : Result ℕ Refusal) (P : ℕ → Type 0) → IsOkAnd w P → is_ok w ≡ true
is_ok_and (Ok n) P p = refl
is_ok_and (Err refusal) P p = absurd p

written : (c : After-write) → file_room ≤ length c.args.out.now
    → let file = c.args.job.now in IsOkAnd c.write.result (λ n. Put (rewritten file) c.args.out.now n c.write.new.out)
written c room = let apart = c.in-Ok.ensures in written_again apart c.write.ensures (omega (arith, rewritten_small _ (records_taken apart).0, room))

pub unwrap-requires : goal.unwrap-requires
unwrap-requires c = is_ok_and _ _ (written (goal.at.unwrap-requires c).After-write c.if-out-lt-FILE_ROOM.false)

pub returns : goal.returns
returns c =
    let enough = c.if-out-lt-FILE_ROOM.false in
    put_fitting file_room _ enough (rw c.unwrap.ensures at (written (goal.at.returns c).After-write enough))
