-- The pressure at a point in whole numbers: none of the figures that it is worked from is negative, and their products are within 63 bits.
use mathlib.Core.Path.{◌≡◌, sym, ap, ◌∙◌}
use Prim.Native.Nat.{ℕ, ◌+◌, ◌-◌, ◌*◌, ◌≤◌, ◌<◌}
use native.Mathlib.Nat.{mul-pos, mul-le-mul_left}
use native.Mathlib.Omega.{arith}
use Rattle.whole.specs.Parts.{above_zero}
use Rattle.whole.specs.Rounding.{rounded_up}
use Rattle.whole.proofs.Integer.{nonneg_above_zero}
use Rattle.whole.proofs.Rounded.{up_least, up_alike}
use Rattle.rules.specs.declared.Action.{Action}
use Rattle.rules.specs.declared.Kind.TheVariants.{Full}
use Rattle.rules.specs.declared.Block.{Block}
use Rattle.rules.specs.declared.Pressed.{Pressed}
use Rattle.rules.specs.JobFile.{Wall, toe_length, base_length}
use Rattle.rules.specs.Bearing.{factored_scale, reported, greatest_peak}
use Rattle.rules.specs.ToeAndStem.{on_line, twice_arm, straight_shear, straight_moment, straight}
use Rattle.rules.proofs.Pressures.{Pressable, reports, reported_most, line_most}
use Rattle.wall.specs.Working.{Bears}

-- a peak scaled is no more than before
pub scaled_within : (peak twice p q : ℕ) → rounded_up (peak * (2 * p - q * twice)) (2 * p) ≤ peak
scaled_within peak twice p q = up_least (2 * p) (mul-le-mul_left peak (let k : 2 * p - q * twice ≤ 2 * p = omega arith in k))

-- ---- a full block's line, whose ends are t and g over l^2

module _ {l : ℕ} {b : Block} (h : Pressable l b) (full : b.kind ≡ Full) {t g : ℕ} (toe : t ≡ above_zero b.toe.over) (heel : g ≡ above_zero b.heel.over) where
  per : above_zero b.toe.under ≡ l * l
  per = ap above_zero (h.even full).0

  -- it weighs each end by the distance from the other
  pub whole_line : (twice : ℕ) → on_line b l twice ≡ rounded_up (factored_scale * (t * (2 * l - twice) + g * twice)) (2 * l * (l * l))
  unfolding on_line
  whole_line twice = rw (toe, heel, ← per, nonneg_above_zero h.toe, nonneg_above_zero h.heel)

  -- it begins with the reported pressure
  pub line_start : 0 < l → on_line b l 0 ≡ reported factored_scale b.toe
  unfolding reported
  line_start some =
      let far : 2 * l - 0 ≡ 2 * l = omega arith in
      whole_line 0
      ∙ rw (← toe, per, far) (up_alike _ (factored_scale * t) (omega (arith, mul-pos some (mul-pos some some))) (mul-pos some some) (omega arith))

-- under a toe: its pressure at a point of the base is no more than the greatest peak, and at the toe's end the reported one
module _ {wall : Wall} {pressed : Pressed} (bears : Bears wall pressed) (full : pressed.block.kind ≡ Full) {l t g : ℕ} (long : l ≡ base_length wall)
    (toe : t ≡ above_zero pressed.block.toe.over) (heel : g ≡ above_zero pressed.block.heel.over) where
  pub full_at : (twice : ℕ) → twice ≤ 2 * l → {r : ℕ} → r ≡ rounded_up (factored_scale * (t * (2 * l - twice) + g * twice)) (2 * l * (l * l))
      → (r ≡ on_line pressed.block (base_length wall) twice) × (r ≤ greatest_peak)
  full_at twice on {r} e =
      let is : r ≡ on_line pressed.block (base_length wall) twice = e ∙ rw long (sym (whole_line bears.pressable full toe heel twice)) in
      (is, rw is (line_most bears.pressable full twice (rw (← long) on)))

  pub full_start : 0 < l → (pressed.toe ≡ on_line pressed.block (base_length wall) 0) × (pressed.toe ≤ greatest_peak)
  full_start some =
      let is = (reports factored_scale bears.reports).0 in
      (is ∙ sym (line_start bears.pressable full toe heel (rw (← long) some)), rw is (reported_most bears.pressable).0)

-- the shear and the moment of a straight line, as they are worked for a wall's own lengths and the pressure f at a point
pub straight_action : (wall : Wall) (f : ℕ → ℕ) {lt A end face middle : ℕ} {r : Action} → lt ≡ toe_length wall → A ≡ twice_arm wall
    → end ≡ f 0 → face ≡ f (2 * lt) → middle ≡ f A → (r.shear ≡ straight_shear wall end face) × (r.moment ≡ straight_moment wall end middle)
    → r ≡ straight wall f
unfolding straight
straight_action wall f a b e v m h = λ i. record { shear = rw (e, v, a) at h.0 i; moment = rw (e, m, b) at h.1 i }
