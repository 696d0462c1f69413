-- The three ways a calculation ends, with what each leaves in the buffer.
use Prim.Native.Nat.{◌*◌, ◌<◌, ◌≤◌}
use mathlib.Core.Path.{◌≡◌, ap, ◌∙◌}
use mathlib.Core.Bool.{true}
use mathlib.Core.List.{List, ◌++◌}
use lib.IntN.{ℤ}
use lib.ListN.{length, drop}
use borrow.Author.Tests.{lt-ltb, le-ltb}
use Rattle.std.specs.Prelude.{Ok, Err}
use Rattle.rules.specs.declared.Refusal.{Refusal}
use Rattle.rules.specs.declared.Refusal.TheVariants.{BufferTooShort}
use Rattle.rules.specs.JobFile.{File, wall_count}
use Rattle.rules.specs.Answered.{Answer, first_refusal, accepted}
use Rattle.rules.specs.SheetLine.{line_numbers, sheet, joined, answer_to, buffer_after, Calculates}
use Rattle.rules.specs.Beyond.{onto}
use Rattle.sheet.proofs.Sheets.{numbers_length}

module _ (file : File) (before : List ℤ) where
  -- the job is refused
  pub job_refused : {refusal : Refusal} {answer : Answer} → first_refusal file ≡ Err refusal → answer ≡ Err refusal → Calculates file before answer before
  unfolding answer_to buffer_after
  job_refused refused is = record { answered = is ∙ rw refused; holds = rw refused }

  module _ (worked : accepted file ≡ true) where
    -- the buffer is too short
    pub too_short : length before < line_numbers * wall_count file → Calculates file before (Err BufferTooShort) before
    unfolding answer_to buffer_after
    too_short short = let test = lt-ltb (length before) (line_numbers * wall_count file) short in record { answered = rw (worked, test); holds = rw (worked, test) }

    -- every line is put
    pub all_worked : {after : List ℤ} → line_numbers * wall_count file ≤ length before → after ≡ onto (joined (sheet file)) before
        → Calculates file before (Ok tt) after
    unfolding answer_to buffer_after onto
    all_worked room put =
        let test = le-ltb (length before) (line_numbers * wall_count file) room in
        record { answered = rw (worked, test); holds = rw (worked, test) (put ∙ ap (λ n. joined (sheet file) ++ drop n before) (numbers_length file)) }
