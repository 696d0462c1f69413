-- `writing::write` meets its contract.
use Rattle.std.proofs.Common.{rules}
use mathlib.Core.Path.{◌≡◌, refl}
use mathlib.Core.List.{List}
use mathlib.Core.Bool.{false}
use Prim.Native.Nat.{ℕ}
use lib.ListN.{length}
use Rattle.std.specs.Prelude.{Err}
use Rattle.rules.specs.declared.Refusal.TheVariants.{CountOutOfRange}
use Rattle.rules.specs.WrittenFile.{records_fit, records_answer, writing_answer}
use Rattle.rules.proofs.Rewritten.{written_fits}
use Rattle.job.proofs.Judging.{no_refusal}
use Rattle.writing.proofs.Writing.{not_written, all_written}
use Rattle.writing.proofs.write.Goals as goal

-- records that don't fit are refused, whatever the room
unfit : (walls loads : List ℕ) (room : ℕ) → records_fit walls loads ≡ false → writing_answer walls loads room ≡ Err CountOutOfRange
unfolding records_answer writing_answer
unfit walls loads room e = rw e

pub returns-in_err-records : goal.returns-in_err-records
returns-in_err-records c =
    let its = c.in_err-records.ensures in
    let given = c.args in
    not_written refl (unfit given.walls.now given.loads.now (length given.out.now) its.1) (rw (← its.0) (search rules))

pub returns-in_err-writing_answer : goal.returns-in_err-writing_answer
returns-in_err-writing_answer c = let its = c.in_ok-records.ensures in rw (← its.0, ← its.1) (not_written c.writing_answer.ensures c.in_err-writing_answer.was (search rules))

pub returns : goal.returns
returns c = let its = c.in_ok-records.ensures in rw (← its.0, ← its.1) (all_written c.writing_answer.ensures c.in_ok-writing_answer.was c.file_bytes.ensures c.put_file.ensures)

pub put_file-requires : goal.put_file-requires
put_file-requires c =
    let lent = c.in_ok-records.records in
    (written_fits lent.walls.now lent.loads.now (length c.args.out.now) (no_refusal c.writing_answer.ensures c.in_ok-writing_answer.was)).1
