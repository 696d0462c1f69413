-- `wall::numbers_of` meets its contract: every number is small, so that it is cast and read back as it is.
use mathlib.Core.Path.{◌≡◌, refl}
use mathlib.Core.List.{List, [], ◌∷◌, map}
use native.Mathlib.Omega.{arith}
use lib.IntN.{ℤ, nat_abs}
use mir.Syntax.{w64}
use mir.Val.{of_z, to_z}
use Rattle.whole.proofs.Integer.{back}
use Rattle.whole.proofs.Lists.{All}
use Rattle.rules.specs.SheetLine.{numbers_by}
use Rattle.rules.proofs.Sizes.{Small}
use Rattle.wall.proofs.numbers_of.Goals as goal

-- small numbers are read back from their bits
read_back : (zs : List ℤ) → All (λ z. Small (nat_abs z)) zs → map (λ z. to_z w64 (of_z w64 z)) zs ≡ zs
read_back [] all = refl
read_back (z ∷ zs) all = cc (back z (omega (arith, all.0)), read_back zs all.1)

pub returns : goal.returns
unfolding numbers_by
returns c =
    rw (c.from.ensures, c.from-2.ensures, c.failures_of-failures.ensures) (read_back _ c.requires)
