-- What C is given: an answer and what it has besides in one number, and a drawing's figures in a lent buffer, which document 01 has as values. A check is asked for by its bit.
use Rattle.std.specs.Prelude.{ℕ, ◌+◌, ◌*◌, ◌<◌, ◌^◌, ◌≡◌, Bool, false, cond, List, [], ◌∷◌, ltb, eqb, ℤ, Float, length, is_ok, Result, Ok, Err}
use Rattle.rules.specs.declared.Refusal.{Refusal}
use Rattle.rules.specs.declared.Refusal.TheVariants.{BufferTooShort}
use Rattle.rules.specs.declared.Check.{Check}
use Rattle.rules.specs.declared.Shape.{Shape}
use Rattle.rules.specs.declared.Shape.TheVariants.{Whole, ToeTriangle, HeelTriangle, Nothing}
use Rattle.rules.specs.JobFile.{File}
use Rattle.rules.specs.Answered.{Answer, number, place, refused_if, ◌or_else◌, ◌gives◌}
use Rattle.rules.specs.SheetLine.{bit, is_set, answer_to, buffer_after}
use Rattle.rules.specs.Drawing.{answer_to_drawing, drawn}
use Rattle.rules.specs.Beyond.{onto, figures}
use Rattle.rules.specs.WrittenFile.{writing_answer, bytes_written, taking_answer, walls_taken, loads_taken}

abbrev pub shape_number : Shape → ℕ
shape_number Nothing = 0
shape_number (Whole toe heel) = 1
shape_number (ToeTriangle peak contact) = 2
shape_number (HeelTriangle peak contact) = 3

-- the place in the low 32 bits, the number in the next 16, and above them what the answer has besides: a shape's number, or how many bytes were written
abbrev pub packed : Answer → ℕ → ℕ
packed answer besides = place answer + 2 ^ 32 * number answer + 2 ^ 48 * besides

-- the place has no more than its bits, so that all three can be read back (proofs/ReadsBack)
pub record Packs (answer : Answer) (besides r : ℕ) : Type 0 where
  pub is : r ≡ packed answer besides
  pub fits : place answer < 2 ^ 32

-- of a result: whether all is well, and what it has besides; a refusal has nothing
abbrev pub answer_of : Result ℕ Refusal → Answer
answer_of (Ok besides) = Ok tt
answer_of (Err refusal) = Err refusal

abbrev pub besides_of : Result ℕ Refusal → ℕ
besides_of (Ok besides) = besides
besides_of (Err refusal) = 0

-- ---- the sheet in numbers; it has nothing besides

pub record CalculatesPacked (file : File) (before : List ℤ) (r : ℕ) (after : List ℤ) : Type 0 where
  pub answered : Packs (answer_to file (length before)) 0 r
  pub holds : after ≡ buffer_after file before

-- ---- the drawing of wall n

-- room for the figures of any shape
abbrev pub figure_room : ℕ
figure_room = 5

-- what is answered where room for so many figures is lent: the refusals of the file, then 18, and 8 last
unfoldable pub drawing_answer : File → ℕ → ℕ → Answer
drawing_answer file n room = answer_to_drawing file n or_else refused_if (ltb room figure_room) (Err BufferTooShort)

-- the number of the shape that is drawn; of a refusal 0
unfoldable pub shape_drawn : File → ℕ → ℕ → ℕ
shape_drawn file n room = cond (is_ok (drawing_answer file n room)) (shape_number (drawn file n).shape) 0

-- the figures, and beyond them what stood there; of a refusal all that stood there
unfoldable pub figures_after : File → ℕ → List Float → List Float
figures_after file n before = cond (is_ok (drawing_answer file n (length before))) (onto (figures (drawn file n)) before) before

pub record PutsDrawing (file : File) (n : ℕ) (before : List Float) (answer : Result ℕ Refusal) (after : List Float) : Type 0 where
  pub answered : answer ≡ (drawing_answer file n (length before) gives shape_drawn file n (length before))
  pub holds : after ≡ figures_after file n before

pub record DrawsPacked (file : File) (n : ℕ) (before : List Float) (r : ℕ) (after : List Float) : Type 0 where
  pub answered : Packs (drawing_answer file n (length before)) (shape_drawn file n (length before)) r
  pub holds : after ≡ figures_after file n before

-- ---- a job file written, with how many bytes it took, and taken apart

pub record WritesPacked (walls loads before : List ℕ) (r : ℕ) (after : List ℕ) : Type 0 where
  pub answered : Packs (writing_answer walls loads (length before)) (length (bytes_written walls loads (length before))) r
  pub holds : after ≡ onto (bytes_written walls loads (length before)) before

pub record TakesApartPacked (file wallsBefore loadsBefore : List ℕ) (r : ℕ) (wallsAfter loadsAfter : List ℕ) : Type 0 where
  pub answered : Packs (taking_answer file (length wallsBefore) (length loadsBefore)) 0 r
  pub walls_held : wallsAfter ≡ onto (walls_taken file (length wallsBefore) (length loadsBefore)) wallsBefore
  pub loads_held : loadsAfter ≡ onto (loads_taken file (length wallsBefore) (length loadsBefore)) loadsBefore

-- ---- a check by its bit

-- is it set among some failures? No check has the bit where the list is at its end
unfoldable pub has_failed : List Check → ℕ → ℕ → Bool
has_failed [] found n = false
has_failed (check ∷ rest) found n = cond (eqb n (bit check)) (is_set found check) (has_failed rest found n)
