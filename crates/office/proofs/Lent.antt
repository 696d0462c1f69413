-- What is answered in one number, and the ways a drawing ends, with what each leaves in the buffer.
use Prim.Native.Nat.{ℕ, ◌<◌, ◌≤◌, ◌^◌}
use mathlib.Core.Path.{◌≡◌, refl, ap, ◌∙◌}
use mathlib.Core.Bool.{false}
use mathlib.Core.List.{List}
use native.Mathlib.Omega.{arith}
use lib.Ieee.{Float}
use lib.Ieee.Bits.{is_true}
use lib.ListN.{length}
use borrow.Author.Tests.{lt-ltb, le-ltb}
use Rattle.std.specs.Prelude.{Result, Ok, Err, is_ok}
use Rattle.whole.proofs.Lists.{case}
use Rattle.rules.specs.declared.Drawn.{Drawn}
use Rattle.rules.specs.declared.Refusal.{Refusal}
use Rattle.rules.specs.declared.Refusal.TheVariants.{BufferTooShort}
use Rattle.rules.specs.declared.Shape.{Shape}
use Rattle.rules.specs.declared.Shape.TheVariants.{Whole, ToeTriangle, HeelTriangle, Nothing}
use Rattle.rules.specs.JobFile.{File}
use Rattle.rules.specs.Answered.{Answer, ◌gives◌}
use Rattle.rules.specs.Drawing.{answer_to_drawing, drawn, drawing_for, Draws}
use Rattle.rules.specs.Beyond.{onto, figures}
use Rattle.rules.specs.WrittenFile.{writing_answer, bytes_written, Writes}
use Rattle.rules.proofs.Replies.{worked_given, refusal_given}
use Rattle.rules.proofs.Rewritten.{written_small}
use Rattle.office.specs.Packed.{shape_number, Packs, answer_of, besides_of, figure_room, drawing_answer, shape_drawn, figures_after, PutsDrawing}

-- ---- a result in one number

-- what is given where all is well is packed with the answer, where a refusal has nothing besides
pub given : (answer : Answer) (besides : ℕ) {r : ℕ} {a : Result ℕ Refusal} → a ≡ (answer gives besides) → (is_ok answer ≡ false → besides ≡ 0)
    → Packs (answer_of a) (besides_of a) r → Packs answer besides r
given (Ok well) besides e none packs = rw e at packs
given (Err refusal) besides e none packs = rw (none refl) (rw e at packs)

pub given_few : (answer : Answer) (besides : ℕ) {a : Result ℕ Refusal} → a ≡ (answer gives besides) → besides < 2 ^ 16 → besides_of a < 2 ^ 16
given_few (Ok well) besides e few = rw e few
given_few (Err refusal) besides e few = rw e (omega arith)

-- ---- a job file that is written

pub bytes_few : {ws ls before after : List ℕ} (w : Result ℕ Refusal) → Writes ws ls before w after → besides_of w < 2 ^ 16
bytes_few (Ok n) writes = omega (arith, written_small writes)
bytes_few (Err refusal) writes = omega arith

pub no_bytes : (ws ls : List ℕ) (room : ℕ) → is_ok (writing_answer ws ls room) ≡ false → length (bytes_written ws ls room) ≡ 0
unfolding bytes_written
no_bytes ws ls room e = rw e

-- ---- a drawing

few : (shape : Shape) → shape_number shape < 2 ^ 16
few Nothing = omega arith
few (Whole toe heel) = omega arith
few (ToeTriangle peak contact) = omega arith
few (HeelTriangle peak contact) = omega arith

pub shapes_few : (file : File) (n room : ℕ) → shape_drawn file n room < 2 ^ 16
unfolding shape_drawn
shapes_few file n room = case (is_ok (drawing_answer file n room)) (shape_number (drawn file n).shape) 0 (λ k. k < 2 ^ 16) (λ t. few (drawn file n).shape) (λ t. omega arith)

pub no_shape : (file : File) (n room : ℕ) → is_ok (drawing_answer file n room) ≡ false → shape_drawn file n room ≡ 0
unfolding shape_drawn
no_shape file n room e = rw e

module _ {file : File} {n : ℕ} {before : List Float} where
  -- it is refused
  pub refused : {refusal : Refusal} {answer : Result ℕ Refusal} → Draws file n (Err refusal) → answer ≡ Err refusal → PutsDrawing file n before answer before
  unfolding drawing_for drawing_answer shape_drawn figures_after
  refused draws is =
      let no = refusal_given (answer_to_drawing file n) _ draws.answered in
      record { answered = is ∙ rw no; holds = rw no }

  module _ {d : Drawn} (draws : Draws file n (Ok d)) where
    -- the buffer is too short
    pub too_short : length before < figure_room → PutsDrawing file n before (Err BufferTooShort) before
    unfolding drawing_for drawing_answer shape_drawn figures_after
    too_short short =
        let yes = is_true _ (worked_given (answer_to_drawing file n) _ draws.answered).0 in
        let test = lt-ltb (length before) figure_room short in
        record { answered = rw (yes, test); holds = rw (yes, test) }

    -- the figures are put
    pub all_drawn : {after : List Float} {number : ℕ} → figure_room ≤ length before → after ≡ onto (figures d) before → number ≡ shape_number d.shape
        → PutsDrawing file n before (Ok number) after
    unfolding drawing_for drawing_answer shape_drawn figures_after
    all_drawn room put is =
        let its = worked_given (answer_to_drawing file n) _ draws.answered in
        let yes = is_true _ its.0 in
        let test = le-ltb (length before) figure_room room in
        record { answered = rw (yes, test) (ap Ok (rw its.1 at is)); holds = rw (yes, test) (rw its.1 at put) }
