-- Figures put behind others are those of both. Assumes nothing.
use mathlib.Core.Path.{◌≡◌, refl}
use mathlib.Core.List.{List, [], ◌∷◌, ◌++◌, append_assoc}
use Prim.Native.Nat.{ℕ, ◌+◌}
use lib.Ieee.{Float}
use Rattle.rules.specs.Beyond.{figures_text}
use Rattle.text.specs.declared.letters.Line.{Line}
use Rattle.text.specs.Placed.{Adds}
use Rattle.text.proofs.Placing.{then}

joined : (xs ys : List Float) → figures_text (xs ++ ys) ≡ figures_text xs ++ figures_text ys
unfolding figures_text
joined [] ys = refl
joined (x ∷ xs) ys = rw (joined xs ys, append_assoc)

pub then_figures : (xs ys : List Float) {most room : ℕ} {before after last : Line} → Adds most (figures_text xs) before after
    → Adds room (figures_text ys) after last → Adds (most + room) (figures_text (xs ++ ys)) before last
then_figures xs ys put behind = rw (joined xs ys) (then put behind)
