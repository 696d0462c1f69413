-- What holds a wall against a push, by the push's part above 0.
use mathlib.Core.Path.{◌≡◌, refl, sym}
use Prim.Native.Nat.{ℕ, ◌+◌, ◌-◌}
use native.Mathlib.Omega.{arith}
use borrow.Author.Tests.{le-ltb}
use lib.Dec.{ltb}
use lib.IntN.{ℤ, pos, negsuc, ◌-ℤ◌}
use lib.Signed.{lt_z}
use Rattle.whole.specs.Parts.{above_zero}
use Rattle.whole.proofs.Integer.{above_minus}

-- what two forces leave of it
pub left_of : (H : ℤ) (p f : ℕ) → above_zero (H -ℤ pos p -ℤ pos f) ≡ above_zero H - (p + f)
left_of H p f = omega (arith, above_minus H p, above_minus (H -ℤ pos p) f)

-- it is more than a whole number where that part is
pub more_than : (n : ℕ) (H : ℤ) → lt_z (pos n) H ≡ ltb n (above_zero H)
more_than n (pos m) = refl
more_than n (negsuc m) = sym (le-ltb n 0 (omega arith))
