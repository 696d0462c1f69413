-- What C is told of a check that it asks for by its bit.
use Prim.Native.Nat.{ℕ}
use mathlib.Core.Path.{◌≡◌, refl}
use mathlib.Core.Bool.{false}
use mathlib.Core.List.{List, [], ◌∷◌}
use mathlib.Core.Logic.{◌↔◌}
use borrow.Author.Tests.{ne_eqb}
use lib.Dec.{T}
use Rattle.whole.proofs.Lists.{All}
use Rattle.rules.specs.declared.Check.{Check}
use Rattle.rules.specs.declared.Check.TheVariants.{Slides, Overturns, OverAllowable, NoServiceBlock, NoFactoredBlock, ToeSteel, StemSteel, Sheared, HeelSteel}
use Rattle.rules.specs.JobFile.{Wall, Load}
use Rattle.rules.specs.SheetLine.{bit, checks, is_set, failures}
use Rattle.rules.proofs.Bits.{Stated, bits}
use Rattle.office.specs.Packed.{has_failed}

-- whether some failures have that bit
pub asked : (found : ℕ) (check : Check) → has_failed checks found (bit check) ≡ is_set found check
unfolding has_failed
asked found Slides = refl
asked found Overturns = refl
asked found OverAllowable = refl
asked found NoServiceBlock = refl
asked found NoFactoredBlock = refl
asked found ToeSteel = refl
asked found StemSteel = refl
asked found Sheared = refl
asked found HeelSteel = refl

-- so the failures of a line tell just where the words of the check hold
pub told : (wall : Wall) (loads : List Load) (check : Check) → T (has_failed checks (failures wall loads) (bit check)) ↔ Stated check wall loads
told wall loads check = rw (asked (failures wall loads) check) (bits wall loads check)

-- and of a number that is the bit of none of them, that it isn't set
pub no_check : (found n : ℕ) (rest : List Check) → All (λ check. n ≡ bit check → ⊥) rest → has_failed rest found n ≡ false
unfolding has_failed
no_check found n [] others = refl
no_check found n (check ∷ rest) others = rw (ne_eqb n (bit check) others.0) (no_check found n rest others.1)

pub of_none : (n : ℕ) (rest : List Check) → ((check : Check) → n ≡ bit check → ⊥) → All (λ check. n ≡ bit check → ⊥) rest
of_none n [] none = tt
of_none n (check ∷ rest) none = (none check, of_none n rest none)
