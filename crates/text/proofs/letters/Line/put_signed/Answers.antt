-- `text::letters::Line::put_signed` meets its contract: a number below 0 is its sign, and then its opposite, one more than what is turned round.
use mathlib.Core.Path.{◌≡◌, ap, ◌∙◌}
use mathlib.Core.Bool.{true, false}
use mathlib.Core.List.{◌∷◌}
use Prim.Native.Nat.{◌+◌}
use Prim.Native.Char.{code}
use native.Mathlib.Numerals.{add-one}
use native.Mathlib.Omega.{arith}
use borrow.Author.Tests.{ltb-true}
use lib.IntN.{ℤ, pos, negsuc, ◌-ℤ◌}
use lib.Signed.{lt_z}
use mir.Syntax.{w64}
use mir.Val.{SFits, to_z, of_z}
use mir.ValLaws.{to_z-of_z, to_z_pos}
use Rattle.whole.specs.Parts.{above_zero}
use Rattle.whole.proofs.Integer.{itself, diff_sub, diff_eq}
use Rattle.rules.specs.SheetLine.{decimal, signed_decimal}
use Rattle.text.proofs.Placing.{then, within}
use Rattle.text.proofs.letters.Line.put_signed.Goals as goal

-- a number as the machine reads it from its bits
abbrev read : ℤ → ℤ
read z = to_z w64 (of_z w64 z)

below : (z : ℤ) → SFits w64 z → lt_z (read z) (pos 0) ≡ true → signed_decimal z ≡ code "-" ∷ decimal (above_zero (read (negsuc 0 -ℤ read z)) + 1)
unfolding signed_decimal
below (pos n) fits is = absurd (omega (arith, ltb-true n 0 (rw (to_z_pos w64 n fits.sfits) at is)))
below (negsuc n) fits is =
    let turned : negsuc 0 -ℤ read (negsuc n) ≡ pos n =
    rw (to_z-of_z w64 (negsuc n) fits) (diff_eq (diff_sub (itself (negsuc 0)) (itself (negsuc n))) (itself (pos n)) (omega arith)) in
    rw (ap read turned ∙ to_z_pos w64 n fits.sfits, add-one)

not_below : (z : ℤ) → SFits w64 z → lt_z (read z) (pos 0) ≡ false → signed_decimal z ≡ decimal (above_zero (read z))
unfolding signed_decimal
not_below (pos n) fits is = rw (to_z_pos w64 n fits.sfits)
not_below (negsuc n) fits is = let never = rw (to_z-of_z w64 (negsuc n) fits) at is in cc

pub returns-then-z-lt0 : goal.returns-then-z-lt0
returns-then-z-lt0 c = rw (below c.args.z c.ranges.z c.if-z-lt0.true) (then c.put_byte.ensures (rw c.above_zero.ensures at c.put_decimal.ensures))

pub returns-else-z-lt0 : goal.returns-else-z-lt0
returns-else-z-lt0 c =
    let put = rw c.above_zero-else-z-lt0.ensures at c.put_decimal-else-z-lt0.ensures in
    rw (not_below c.args.z c.ranges.z c.if-z-lt0.false) (within put (omega (arith, put.short)))
