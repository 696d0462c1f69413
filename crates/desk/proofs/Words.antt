-- The library compares two words as the rules do, byte by byte.
use mathlib.Core.Path.{◌≡◌, refl, ap}
use mathlib.Core.List.{List, [], ◌∷◌}
use mathlib.Core.Bool.{◌&&◌}
use Prim.Native.Nat.{ℕ}
use lib.Dec.{eqb}
use lib.Pointwise.{pointwise}
use Rattle.desk.specs.Commands.{same}

pub same_so : (one other : List ℕ) → pointwise eqb one other ≡ same one other
unfolding same
same_so [] [] = refl
same_so [] (y ∷ ys) = refl
same_so (x ∷ xs) [] = refl
same_so (x ∷ xs) (y ∷ ys) = ap (λ b. eqb x y && b) (same_so xs ys)
