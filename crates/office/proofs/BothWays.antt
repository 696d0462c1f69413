-- Document 02, "#101 Write job files", of the two functions for C, by the parts of their answers that C reads back.
use Prim.Native.Nat.{ℕ, ◌*◌, ◌/◌, ◌%◌, ◌≤◌, ◌^◌}
use mathlib.Core.Path.{◌≡◌, refl, sym, ap, ◌∙◌}
use mathlib.Core.List.{List}
use native.Mathlib.Omega.{arith}
use lib.Dec.{T}
use lib.Ieee.Bits.{is_true}
use lib.ListN.{length, take}
use Rattle.whole.proofs.Lists.{All}
use Rattle.std.specs.Prelude.{Result, Ok, Err, is_ok, IsOkAnd}
use Rattle.rules.specs.declared.Refusal.{Refusal}
use Rattle.rules.specs.declared.Taken.{Taken}
use Rattle.rules.specs.JobFile.{wall_fields, entry_fields, wall_count, load_count}
use Rattle.rules.specs.Answered.{Answer, number, ◌gives◌}
use Rattle.rules.specs.Beyond.{onto, Put}
use Rattle.rules.specs.WrittenFile.{writing_answer, Writes, taking_answer, walls_taken, loads_taken, numbers_taken, TakesApart}
use Rattle.rules.proofs.Bytes.{Numbers}
use Rattle.rules.proofs.LongInput.{IsByte}
use Rattle.rules.proofs.Replies.{no_number, gives_worked}
use Rattle.rules.proofs.Rewritten.{walls_numbers, entries_numbers, written_is_read, taken_is_written}
use Rattle.office.specs.Packed.{WritesPacked, TakesApartPacked}
use Rattle.office.proofs.ReadsBack.{writing_reads_back, taking_reads_back}

-- as many bytes are written as are read back, so that the laws of a writing hold,
pub writes : {ws ls before after : List ℕ} {r : ℕ} → WritesPacked ws ls before r after
    → Writes ws ls before (writing_answer ws ls (length before) gives r / 2 ^ 48) after
writes {ws} {ls} {before} call =
    record { answered = ap (λ (n : ℕ). writing_answer ws ls (length before) gives n) (writing_reads_back call).rest; holds = call.holds }

module _ {file wallsBefore loadsBefore wallsAfter loadsAfter : List ℕ} {r : ℕ} (call : TakesApartPacked file wallsBefore loadsBefore r wallsAfter loadsAfter) where
  -- what was taken
  abbrev taken : Result Taken Refusal
  taken = taking_answer file (length wallsBefore) (length loadsBefore) gives numbers_taken file (length wallsBefore) (length loadsBefore)

  -- and those of a taking apart
  pub takes_apart : TakesApart file wallsBefore loadsBefore taken wallsAfter loadsAfter
  takes_apart = record { answered = refl; walls_held = call.walls_held; loads_held = call.loads_held }

-- 0 is the number of no refusal
well : (answer : Answer) → number answer ≡ 0 → T (is_ok answer)
well answer zero = rw (← no_number answer, zero) tt

-- and where something is given, all is well
all_well : {A : Type 0} (answer : Answer) (worked : A) (P : A → Type 0) → IsOkAnd (answer gives worked) P → (answer ≡ Ok tt) × P worked
all_well (Ok good) worked P p = (refl, p)
all_well (Err refusal) worked P p = absurd p

-- "What it writes is read back as the same records": 0 is answered, and they stand in the buffers
pub written_is_taken : {ws ls before after wallsBefore loadsBefore wallsAfter loadsAfter : List ℕ} {r q : ℕ}
    → WritesPacked ws ls before r after → Numbers ws → Numbers ls → r / 2 ^ 32 % 2 ^ 16 ≡ 0
    → TakesApartPacked (take (r / 2 ^ 48) after) wallsBefore loadsBefore q wallsAfter loadsAfter → length ws ≤ length wallsBefore → length ls ≤ length loadsBefore
    → (q ≡ 0) × (wallsAfter ≡ onto ws wallsBefore) × (loadsAfter ≡ onto ls loadsBefore)
written_is_taken {ws} {ls} {before} {after} {wallsBefore} {loadsBefore} {wallsAfter} {loadsAfter} {r} writing wallNumbers loadNumbers zero taking h k =
    let answer = writing_answer ws ls (length before) in
    let worked = well answer (sym (writing_reads_back writing).next ∙ zero) in
    let written = rw (gives_worked answer (r / 2 ^ 48) worked) at (writes writing) in
    let m = length wallsBefore in
    let n = length loadsBefore in
    let file = take (r / 2 ^ 48) after in
    let back =
    all_well (taking_answer file m n) (numbers_taken file m n) (λ (t : Taken). Put ws wallsBefore t.walls wallsAfter × Put ls loadsBefore t.loads loadsAfter)
    (written_is_read written wallNumbers loadNumbers (takes_apart taking) h k) in
    (rw back.0 at taking.answered.is, back.1.0.holds, back.1.1.holds)

-- "any file that the reader accepts, taken apart and written again, gives the same bytes": so many are answered, and they stand in the buffer
pub taken_is_written_again : {file wallsBefore loadsBefore wallsAfter loadsAfter before after : List ℕ} {r : ℕ}
    → TakesApartPacked file wallsBefore loadsBefore 0 wallsAfter loadsAfter → All IsByte file
    → WritesPacked (take (wall_fields * wall_count file) wallsAfter) (take (entry_fields * load_count file) loadsAfter) before r after → length file ≤ length before
    → (r ≡ 2 ^ 48 * length file) × (after ≡ onto file before)
unfolding walls_taken loads_taken numbers_taken
taken_is_written_again {file} {wallsBefore} {loadsBefore} {wallsAfter} {loadsAfter} {before} {after} {r} taking bytes writing room =
    let m = length wallsBefore in
    let n = length loadsBefore in
    let answer = taking_answer file m n in
    let worked = well answer (sym (taking_reads_back taking).next) in
    let all = is_true (is_ok answer) worked in
    let wallsThere : wall_fields * wall_count file ≡ (numbers_taken file m n).walls = rw all (sym (walls_numbers file)) in
    let loadsThere : entry_fields * load_count file ≡ (numbers_taken file m n).loads = rw all (sym (entries_numbers file)) in
    let apart = rw (gives_worked answer (numbers_taken file m n) worked) at (takes_apart taking) in
    let call = rw (wallsThere, loadsThere) at writing in
    let ws = take (numbers_taken file m n).walls wallsAfter in
    let ls = take (numbers_taken file m n).loads loadsAfter in
    let again =
    all_well (writing_answer ws ls (length before)) (r / 2 ^ 48) (λ (n : ℕ). Put file before n after) (taken_is_written apart bytes (writes call) room) in
    (omega (arith, rw again.0 at call.answered.is, again.1.counted, (writing_reads_back call).rest), again.1.holds)
