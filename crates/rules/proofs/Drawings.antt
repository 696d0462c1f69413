-- Document 01, "The bearing block": what is answered where a drawing is asked for, that each figure of a drawing is its own exact fraction, rounded once, and that
-- none is a NaN.
use Rattle.rules.specs.declared.Refusal.{Refusal}
use Rattle.std.specs.Prelude.{is_ok, Ok, Err, IfOk, IsOkAnd}
use mathlib.Core.Path.{◌≡◌, refl}
use mathlib.Core.Bool.{true, false, not}
use mathlib.Core.List.{List}
use Prim.Native.Nat.{ℕ, zero, suc, ◌-◌, ◌<◌}
use native.Mathlib.Omega.{arith}
use lib.Dec.{T, lit<}
use lib.Ieee.{Float}
use lib.Ieee.Bits.{is_true}
use lib.IntN.{ℤ, pos, nat_abs, ◌-ℤ◌, ◌*ℤ◌}
use lib.Signed.{◌<ℤ◌, lt_z_yes}
use borrow.Author.Tests.{le-leb}
use Rattle.whole.proofs.Integer.{pos-<ℤ, Above, above, is_above}
use Rattle.whole.proofs.Lists.{All}
use Rattle.rules.specs.declared.Refusal.TheVariants.{NoSuchWall}
use Rattle.rules.specs.declared.Block.{Block}
use Rattle.rules.specs.declared.Drawn.{Drawn}
use Rattle.rules.specs.declared.Fraction.{Fraction}
use Rattle.rules.specs.declared.Kind.{Kind}
use Rattle.rules.specs.declared.Kind.TheVariants.{Full, FromToe, FromHeel, NoBlock}
use Rattle.rules.specs.declared.Shape.{Shape}
use Rattle.rules.specs.declared.Shape.TheVariants.{Whole, ToeTriangle, HeelTriangle, Nothing}
use Rattle.rules.specs.declared.Totals.{Totals}
use Rattle.rules.specs.JobFile.{File, Wall, Load, wall_count, wall_at, walls, entries, loads_on, base_length}
use Rattle.rules.specs.Answered.{refused_if, is_there, numbered, first_refusal, accepted, Answer, ◌gives◌}
use Rattle.rules.specs.Forces.{service}
use Rattle.rules.specs.Bearing.{of_kind, service_scale, reported, peak, block_under, service_block, is_given}
use Rattle.rules.specs.Drawing.{in_thousands, drawing_of, shape_by, shape_of, answer_to_drawing, drawn, drawing_for}
use Rattle.rules.specs.Beyond.{fits, shape_figures, figures}
use Rattle.rules.proofs.AcceptedFile.{walls_length, wall_at_lem, first_worked, there_is, passes}
use Rattle.rules.proofs.Carries.{given_has, service_above, service_bears}
use Rattle.rules.proofs.Divisions.{OneDivision, one_division, IsNumber, division_number}
use Rattle.rules.proofs.Doubles.{Shaped, divided, shaped}
use Rattle.rules.proofs.Examined.{fit, wall_of_file}
use Rattle.rules.proofs.Sizes.{Small}

-- ---- what is answered

module _ (file : File) where
  -- a refused file has nothing to draw
  pub refused_drawing : (n : ℕ) {refusal : Refusal} → first_refusal file ≡ Err refusal → drawing_for file n ≡ Err refusal
  unfolding drawing_for answer_to_drawing
  refused_drawing n e = rw e

  -- nor has an accepted one of a wall that isn't there
  pub no_such_wall : (n : ℕ) → accepted file ≡ true → is_there n (walls file) ≡ false → drawing_for file n ≡ Err (NoSuchWall n)
  unfolding drawing_for answer_to_drawing
  no_such_wall n e none = rw (e, none)

  module _ (t : T (accepted file)) (i : ℕ) (h : i < wall_count file) where
    -- the wall at an index is there, and is drawn with its own loads
    abbrev its : List Load
    its = loads_on (suc i) (entries file)

    answered : answer_to_drawing file (suc i) ≡ Ok tt
    unfolding answer_to_drawing
    answered = rw (is_true (accepted file) t, walls_length, le-leb 1 (suc i) (omega arith), le-leb (suc i) (wall_count file) (omega arith))

    pub drawn_is : drawn file (suc i)
        ≡ record { drawing = drawing_of (service (wall_at file i) its); shape = shape_of (service_block (wall_at file i) its) }
    unfolding drawn
    drawn_is = let index : suc i - 1 ≡ i = omega arith in rw (index, wall_at_lem file i h)

    pub wall_drawn : drawing_for file (suc i) ≡ Ok (drawn file (suc i))
    unfolding drawing_for
    wall_drawn = rw answered

-- ---- every figure

-- N/m2 by 1000, of a pressure as it is reported
abbrev pub InKilo : Fraction → Float → Type 0
InKilo pressure figure = OneDivision (pos (reported service_scale pressure)) (pos 1000) figure

-- each case of the shape has its own figures of the block that totals make on a base of length l
abbrev pub ShapeFigured : Totals → ℤ → Block → Shape → Type 0
ShapeFigured t l b (Whole toe heel) = (b.kind ≡ Full) × InKilo b.toe toe × InKilo b.heel heel
ShapeFigured t l b (ToeTriangle peak contact) = (b.kind ≡ FromToe) × InKilo b.toe peak × OneDivision t.M6 (pos 2 *ℤ t.R) contact
ShapeFigured t l b (HeelTriangle peak contact) =
    (b.kind ≡ FromHeel) × InKilo b.heel peak × OneDivision (pos 6 *ℤ t.R *ℤ l -ℤ t.M6) (pos 2 *ℤ t.R) contact
ShapeFigured t l b Nothing = b.kind ≡ NoBlock

-- newtons by 1000, M6 by 6R, and the shape's own
pub record Figured (wall : Wall) (loads : List Load) (d : Drawn) : Type 0 where
  pub R : OneDivision (service wall loads).R (pos 1000) d.drawing.R
  pub H : OneDivision (service wall loads).H (pos 1000) d.drawing.H
  pub distance : OneDivision (service wall loads).M6 (pos 6 *ℤ (service wall loads).R) d.drawing.distance
  pub shape : ShapeFigured (service wall loads) (pos (base_length wall)) (service_block wall loads) d.shape

thousandth : (z : ℤ) → Small (nat_abs z) → OneDivision z (pos 1000) (in_thousands z)
thousandth z h = one_division z (pos 1000) h (lit< tt) (lt_z_yes tt)

-- 6R is above 0 where R is
six_above : {R : ℤ} → Above R → pos 0 <ℤ (pos 6 *ℤ R)
six_above (above n h) = pos-<ℤ.1 (omega arith)

module _ (t : Totals) (l : ℤ) where
  -- a block has its shape's figures, where what its contact stands over is above 0
  abbrev HasFigures : Block → Type 0
  HasFigures b = Shaped b → (T (is_given b) → pos 0 <ℤ b.contact.under) → ShapeFigured t l b (shape_of b)

  kind_figured : (k : Kind) → HasFigures (of_kind k t.R t.M6 l)
  unfolding of_kind shape_of shape_by
  kind_figured Full s some = (refl, thousandth _ s.toe, thousandth _ s.heel)
  kind_figured FromToe s some = (refl, thousandth _ s.toe, one_division _ _ s.over s.under (some tt))
  kind_figured FromHeel s some = (refl, thousandth _ s.heel, one_division _ _ s.over s.under (some tt))
  kind_figured NoBlock s some = refl

-- a wall that is there fits with its loads
there_fits : (file : File) → T (accepted file) → (n : ℕ) → T (is_there n (walls file)) → T (fits (numbered n (walls file)) (loads_on n (entries file)))
there_fits file t zero there = absurd there
there_fits file t (suc i) there =
    let index : suc i - 1 ≡ i = omega arith in
    let h : i < wall_count file = omega (arith, there_is file (suc i) there) in
    rw (index, wall_at_lem file i h) (wall_of_file file t i h)

drawn_figured : (file : File) (n : ℕ) → T (accepted file) → T (is_there n (walls file))
    → Figured (numbered n (walls file)) (loads_on n (entries file)) (drawn file n)
unfolding drawn drawing_of service_block block_under
drawn_figured file n t there =
    let wall = numbered n (walls file) in
    let loads = loads_on n (entries file) in
    let worked = there_fits file t n there in
    let small = fit wall loads worked in
    let d = divided wall loads small in
    record {
      R = thousandth _ d.R;
      H = thousandth _ d.H;
      distance = one_division _ _ d.M6 d.sixfold (six_above (is_above (service_above wall loads worked)));
      shape = given_has (HasFigures (service wall loads) _) service_scale _ _ _ (kind_figured (service wall loads) _) (shaped wall loads small) (λ given. (service_bears wall loads worked given).straight.proper.contact);
    }

-- each figure of a drawing, of any wall that an accepted file has, is its own exact fraction, rounded once
pub each_figure : (file : File) (n : ℕ) → T (accepted file) → T (is_there n (walls file))
    → IsOkAnd (drawing_for file n) (Figured (numbered n (walls file)) (loads_on n (entries file)))
unfolding drawing_for answer_to_drawing
each_figure file n t there = rw (is_true (accepted file) t, is_true (is_there n (walls file)) there) (drawn_figured file n t there)

-- ---- no NaN

shape_numbers : (t : Totals) (l : ℤ) (b : Block) (s : Shape) → ShapeFigured t l b s → All IsNumber (shape_figures s)
unfolding shape_figures
shape_numbers t l b (Whole toe heel) f = (division_number f.1, (division_number f.2, tt))
shape_numbers t l b (ToeTriangle peak contact) f = (division_number f.1, (division_number f.2, tt))
shape_numbers t l b (HeelTriangle peak contact) f = (division_number f.1, (division_number f.2, tt))
shape_numbers t l b Nothing f = tt

drawn_numbers : (wall : Wall) (loads : List Load) (d : Drawn) → Figured wall loads d → All IsNumber (figures d)
unfolding figures
drawn_numbers wall loads d f =
    (division_number f.R, (division_number f.H, (division_number f.distance, shape_numbers (service wall loads) (pos (base_length wall)) (service_block wall loads) d.shape f.shape)))

-- only a wall that is there is drawn
drawable : (file : File) (n : ℕ) → T (is_ok (answer_to_drawing file n)) → T (accepted file) × T (is_there n (walls file))
unfolding answer_to_drawing
drawable file n t =
    let h = first_worked (first_refusal file) (refused_if (not (is_there n (walls file))) (Err (NoSuchWall n))) t in
    (h.0, passes (is_there n (walls file)) (NoSuchWall n) h.1)

-- whatever is asked for, no figure that is answered is a NaN
pub never_nan : (file : File) (n : ℕ) → IfOk (drawing_for file n) (λ d. All IsNumber (figures d))
unfolding drawing_for
never_nan file n = go (answer_to_drawing file n) (λ t. let h = drawable file n t in drawn_numbers _ _ _ (drawn_figured file n h.0 h.1))
  where
    go : (answer : Answer) → (T (is_ok answer) → All IsNumber (figures (drawn file n))) → IfOk (answer gives drawn file n) (λ d. All IsNumber (figures d))
    go (Ok well) numbers = numbers tt
    go (Err refusal) numbers = tt
