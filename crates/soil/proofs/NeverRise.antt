-- Document 02, "#108 Coefficients from the angle": what is proved of the coefficients. "At 24.2 degrees that is 591 and 419", and "both fall or stay as the angle grows".
use mathlib.Core.Path.{◌≡◌, refl, sym}
use mathlib.Core.Bool.{true}
use Prim.Native.Nat.{ℕ, ◌+◌, ◌-◌, ◌*◌, ◌≤◌}
use native.Mathlib.Omega.{arith}
use native.Mathlib.Nat.{mul-le-mul}
use borrow.Author.Tests.{le-leb}
use lib.Dec.{leb, leb→le}
use Rattle.whole.specs.Rounding.{rounded_up, rounded_down, rounded_nearest}
use Rattle.whole.proofs.Rounded.{up_mono, up_across}
use Rattle.std.specs.Prelude.{Some}
use Rattle.rules.specs.declared.Coefficients.{Coefficients}
use Rattle.rules.specs.Coefficients.{million, sine, at_rest, active, sine_of, is_soil, made_by, coefficients_of, turned, turned_by}
use Rattle.rules.proofs.Accepted.{both}
use Rattle.soil.proofs.Sines.{grows, at_most_one, known}

-- an angle that soil has is one of the table
pub soil_from : (angle : ℕ) → is_soil angle ≡ true → (1 ≤ angle) × (angle ≤ 450)
soil_from angle e = let h = both (leb 1 angle) (leb angle 450) (rw e tt) in (leb→le _ _ h.0, leb→le _ _ h.1)

-- and so it has a sine, and what is found is that one
pub soil_found : (angle : ℕ) → true ≡ is_soil angle → sine_of angle ≡ Some (sine angle)
soil_found angle soil = known angle (omega (arith, (soil_from angle (sym soil)).1))

pub soil_sine : (angle : ℕ) {n : ℕ} → true ≡ is_soil angle → sine_of angle ≡ Some n → n ≡ sine angle
soil_sine angle soil e = let found = soil_found angle soil in cc

pub soil_small : (angle : ℕ) {n : ℕ} → true ≡ is_soil angle → sine_of angle ≡ Some n → n ≤ million
soil_small angle soil e = rw (soil_sine angle soil e) (at_most_one angle (omega (arith, (soil_from angle (sym soil)).1)))

pub at_24_2 : coefficients_of 242 ≡ Some (record { rest = 591; active = 419 })
unfolding coefficients_of at_rest active sine turned turned_by rounded_up rounded_down rounded_nearest
at_24_2 = refl

-- a greater sine gives no greater coefficient
rest_falls : {s t : ℕ} → s ≤ t → at_rest t ≤ at_rest s
unfolding at_rest
rest_falls h = up_mono million (omega arith)

active_falls : {s t : ℕ} → s ≤ t → active t ≤ active s
unfolding active
active_falls {s} {t} h = up_across (1000 * (million - t)) (million + t) (1000 * (million - s)) (omega arith) (mul-le-mul (omega arith) (omega arith))

-- of two coefficients of a kind, neither is greater than it was before
abbrev pub NoneGreater : Coefficients → Coefficients → Type 0
NoneGreater before now = (now.rest ≤ before.rest) × (now.active ≤ before.active)

-- and so does no greater angle: both have coefficients, and neither rises
pub never_rise : (m n : ℕ) → 1 ≤ m → m ≤ n → n ≤ 450
    → (before now : Coefficients) × (coefficients_of m ≡ Some before) × (coefficients_of n ≡ Some now) × NoneGreater before now
unfolding coefficients_of
never_rise m n low h high = (
  made_by (sine m),
  made_by (sine n),
  rw (le-leb 1 m low, le-leb m 450 (omega arith)),
  rw (le-leb 1 n (omega arith), le-leb n 450 high),
  (rest_falls (grows m n h (omega arith)), active_falls (grows m n h (omega arith))),
)
