-- Document 01, "The bearing block", its last paragraph: the service block for the drawing office, from a job file and a wall's number.
-- A figure is a quotient in IEEE 754's binary64: `of_int` makes doubles of dividend and divisor, and `div` rounds once.
use Rattle.rules.specs.declared.Refusal.{Refusal}
use Rattle.std.specs.Prelude.{ℕ, ◌≡◌, not, ℤ, pos, ◌*ℤ◌, Float, Result, Err}
use Rattle.std.specs.Float.{binary64}
use Rattle.std.specs.Float.Ieee.{of_int, div}
use Rattle.rules.specs.declared.Refusal.TheVariants.{NoSuchWall}
use Rattle.rules.specs.declared.Block.{Block}
use Rattle.rules.specs.declared.Drawing.{Drawing}
use Rattle.rules.specs.declared.Drawn.{Drawn}
use Rattle.rules.specs.declared.Fraction.{Fraction}
use Rattle.rules.specs.declared.Kind.{Kind}
use Rattle.rules.specs.declared.Kind.TheVariants.{Full, FromToe, FromHeel, NoBlock}
use Rattle.rules.specs.declared.Shape.{Shape}
use Rattle.rules.specs.declared.Shape.TheVariants.{Whole, ToeTriangle, HeelTriangle, Nothing}
use Rattle.rules.specs.declared.Totals.{Totals}
use Rattle.rules.specs.JobFile.{File, walls, entries, loads_on}
use Rattle.rules.specs.Answered.{refused_if, ◌or_else◌, is_there, numbered, first_refusal, Answer, ◌gives◌}
use Rattle.rules.specs.Forces.{service}
use Rattle.rules.specs.Bearing.{service_scale, reported, service_block}

unfoldable pub quotient : ℤ → ℤ → Float
quotient a b = div binary64 (of_int binary64 a) (of_int binary64 b)

-- newtons as kN, and N/m2 as kN/m2
abbrev pub in_thousands : ℤ → Float
in_thousands a = quotient a (pos 1000)

abbrev pub in_kilo : Fraction → Float
in_kilo pressure = in_thousands (pos (reported service_scale pressure))

unfoldable pub drawing_of : Totals → Drawing
drawing_of t =
    record {
      R = in_thousands t.R;
      H = in_thousands t.H;
      distance = quotient t.M6 (pos 6 *ℤ t.R);
    }

-- the length in contact is a triangle's M6 or N by 2R
unfoldable pub shape_by : Kind → Block → Shape
shape_by Full b = Whole (in_kilo b.toe) (in_kilo b.heel)
shape_by FromToe b = ToeTriangle (in_kilo b.toe) (quotient b.contact.over b.contact.under)
shape_by FromHeel b = HeelTriangle (in_kilo b.heel) (quotient b.contact.over b.contact.under)
shape_by NoBlock b = Nothing

unfoldable pub shape_of : Block → Shape
shape_of b = shape_by b.kind b

-- ---- what is answered: the refusals of the file, and then 18

unfoldable pub answer_to_drawing : File → ℕ → Answer
answer_to_drawing file n = first_refusal file or_else refused_if (not (is_there n (walls file))) (Err (NoSuchWall n))

unfoldable pub drawn : File → ℕ → Drawn
drawn file n =
    let wall = numbered n (walls file) in
    let its = loads_on n (entries file) in
    record { drawing = drawing_of (service wall its); shape = shape_of (service_block wall its) }

unfoldable pub drawing_for : File → ℕ → Result Drawn Refusal
drawing_for file n = answer_to_drawing file n gives drawn file n

-- what is answered where wall n is to be drawn
pub record Draws (file : File) (n : ℕ) (answer : Result Drawn Refusal) : Type 0 where
  pub answered : answer ≡ drawing_for file n
