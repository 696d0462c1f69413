-- `text::letters::Line::put_shape_figures` meets its contract.
use mathlib.Core.Path.{◌≡◌}
use mathlib.Core.Logic.{◌⊎◌, inl, inr}
use mathlib.Core.List.{[], ◌∷◌}
use lib.Ieee.{Float}
use Rattle.rules.specs.declared.Shape.{Shape}
use Rattle.rules.specs.declared.Shape.TheVariants.{Whole, ToeTriangle, HeelTriangle}
use Rattle.rules.specs.Beyond.{shape_figures, figures_text}
use Rattle.text.proofs.Placing.{nothing}
use Rattle.text.proofs.letters.Line.put_shape_figures.Goals as goal

-- those of any shape that has two
two : (shape : Shape) (x y : Float) → (shape ≡ Whole x y) ⊎ ((shape ≡ ToeTriangle x y) ⊎ (shape ≡ HeelTriangle x y)) → shape_figures shape ≡ x ∷ y ∷ []
unfolding shape_figures
two shape x y (inl is) = rw is
two shape x y (inr (inl is)) = rw is
two shape x y (inr (inr is)) = rw is

pub returns-in-Whole : goal.returns-in-Whole
returns-in-Whole c = rw (two c.args.shape c.in-Whole.first c.in-Whole.second c.in-Whole.is) c.put_pair.ensures

pub returns-in-Nothing : goal.returns-in-Nothing
unfolding shape_figures figures_text
returns-in-Nothing c = rw c.in-Nothing.is nothing
