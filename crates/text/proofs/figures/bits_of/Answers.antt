-- `text::figures::bits_of` meets its contract.
use mathlib.Core.Path.{◌≡◌, refl, sym, ◌∙◌}
use mathlib.Core.Bool.{true}
use lib.Ieee.{Float, nan, inf, fin, is_nan, to_bits, binary64}
use Rattle.text.proofs.figures.bits_of.Goals as goal

no_number : (x : Float) → is_nan x ≡ true → 9221120237041090560 ≡ to_bits binary64 x
unfolding to_bits is_nan
no_number nan is = refl
no_number (inf s) is = cc
no_number (fin s m e) is = cc

pub returns-then-is_nan : goal.returns-then-is_nan
returns-then-is_nan c = no_number c.args.x (sym c.is_nan.ensures.value ∙ c.if-is_nan.true)
