-- `office::put_shape` meets its contract: in each arm the shape is the one whose figures are put.
use mathlib.Core.Path.{◌≡◌}
use mathlib.Core.Logic.{◌⊎◌, inl, inr}
use mathlib.Core.List.{[], ◌∷◌}
use lib.Ieee.{Float}
use Rattle.rules.specs.declared.Shape.{Shape}
use Rattle.rules.specs.declared.Shape.TheVariants.{Whole, ToeTriangle, HeelTriangle}
use Rattle.rules.specs.Beyond.{onto, shape_figures}
use Rattle.office.proofs.put_shape.Goals as goal

-- the figures of any shape that has two
two : (shape : Shape) (x y : Float) → (shape ≡ Whole x y) ⊎ ((shape ≡ ToeTriangle x y) ⊎ (shape ≡ HeelTriangle x y)) → shape_figures shape ≡ x ∷ y ∷ []
unfolding shape_figures
two shape x y (inl is) = rw is
two shape x y (inr (inl is)) = rw is
two shape x y (inr (inr is)) = rw is

pub returns-in-Whole : goal.returns-in-Whole
unfolding onto
returns-in-Whole c = rw (two c.args.shape c.in-Whole.first c.in-Whole.second c.in-Whole.is, c.copy_from_slice.ensures.after)

pub returns-in-Nothing : goal.returns-in-Nothing
unfolding onto shape_figures
returns-in-Nothing c = rw c.in-Nothing.is
