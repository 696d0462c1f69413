-- How many bits the figures of a triangle have: each product that its bearing is worked from fits, in 64 bits or in a wide number, and so does each quotient.
use mathlib.Core.Path.{◌≡◌}
use Prim.Native.Nat.{ℕ, ◌-◌, ◌*◌, ◌≤◌, ◌<◌, ◌^◌}
use native.Mathlib.Nat.{mul-le-mul, mul-le-mul_left, mul-le-mul_right}
use native.Mathlib.Omega.{arith}
use Rattle.whole.specs.Rounding.{rounded_up}
use Rattle.whole.proofs.Rounded.{up_least}
use Rattle.rules.specs.ToeAndStem.{per_pressure, plain, begun_shear, begun_moment, in_newtons}
use Rattle.rules.proofs.Accepted.{longest}
use Rattle.rules.proofs.Sizes.{heaviest_factored}
use Rattle.rules.proofs.Triangles.{past, past_most, before_shear, before_moment}
use Rattle.wall.specs.declared.triangle.Triangle.{Triangle}
use Rattle.wall.specs.Working.{fraction, begins, Contact}

-- the longest contact that there is, in its own parts
abbrev pub widest : ℕ
widest = longest * (2 * heaviest_factored)

-- a length, in parts of the contact
pub length_fits_lem : {p q : ℕ} → Contact p q → (n : ℕ) → n ≤ longest → n * q ≤ widest
length_fits_lem s n h = mul-le-mul h s.under_most

module _ (t : Triangle) where
  abbrev peak : ℕ
  peak = t.peak

  abbrev p : ℕ
  p = t.contact.over

  abbrev q : ℕ
  q = t.contact.under

  abbrev l : ℕ
  l = t.l

  -- the peak over a length, and over so many of these parts
  pub over_length : (n : ℕ) → n ≤ longest → peak * n < 2 ^ 35
  over_length n h = omega (arith, mul-le-mul t.peak_most h)

  pub over_parts : (n : ℕ) → n ≤ widest → peak * n < 2 ^ 62
  over_parts n h = omega (arith, mul-le-mul t.peak_most h)

  -- what lies past a section at i/j of a triangle from the heel is no more than its contact, nor than the way to the section
  pub past_fits : (i : ℕ) {j : ℕ} → 0 < j → i ≤ j * l → i ≤ longest → (past p q l i j ≤ j * p) × (past p q l i j ≤ longest * q) × (past p q l i j ≤ widest)
  unfolding past
  past_fits i {j} some on h =
      let way = past_most peak p q t.contact.small.over_some t.contact.small.under_some l i j some t.on_base on in
      omega (arith, mul-le-mul_right q h, length_fits_lem t.contact.small i h)

  -- what it bears before a section, by how far it reaches past that
  pub shear_before : (lt : ℕ) → lt ≤ l → {e : ℕ} → e ≡ past p q l lt 1
      → in_newtons (begun_shear (plain peak) (fraction p q) (begins l p q) (plain lt)) ≡ rounded_up (peak * e * e) (2 * per_pressure * q * p)
  shear_before lt on is =
      rw is (before_shear peak p q t.contact.small.over_some t.contact.small.under_some l lt 1 (omega arith) t.on_base (omega arith))

  pub moment_before : (A : ℕ) → A ≤ 2 * l → {e : ℕ} → e ≡ past p q l A 2
      → in_newtons (begun_moment (plain peak) (fraction p q) (begins l p q) (fraction A 2)) ≡ rounded_up (peak * e * e * e) (48 * per_pressure * q * q * p)
  moment_before A on is =
      rw is (before_moment peak p q t.contact.small.over_some t.contact.small.under_some l A 2 (omega arith) t.on_base (omega arith))

  -- ---- the quotients

  pub toe_shear_fits : (lt : ℕ) → lt ≤ longest → rounded_up (peak * lt * (2 * p - lt * q)) (2 * per_pressure * p) < 2 ^ 64
  toe_shear_fits lt h =
      let part : 2 * p - lt * q ≤ 2 * per_pressure * p = omega arith in
      omega (arith, up_least {n = peak * lt} (2 * per_pressure * p) (mul-le-mul_left (peak * lt) part), over_length lt h)

  pub toe_moment_fits : (A : ℕ) → A ≤ longest → 2 * p ≤ A * q → rounded_up (peak * p * (3 * A * q - 2 * p)) (12 * per_pressure * q * q) < 2 ^ 64
  toe_moment_fits A h k =
      let arm : 3 * A * q - 2 * p ≤ 3 * A * q = omega arith in
      let short : p ≤ A * q = omega arith in
      let most : rounded_up (peak * p * (3 * A * q - 2 * p)) (12 * per_pressure * q * q) ≤ peak * (A * A) = up_least _ (omega (arith, mul-le-mul_left peak (mul-le-mul short arm))) in
      omega (arith, mul-le-mul t.peak_most (mul-le-mul h h))

  pub heel_shear_fits : {e : ℕ} → e ≤ p → e ≤ longest * q → rounded_up (peak * e * e) (2 * per_pressure * q * p) < 2 ^ 64
  heel_shear_fits {e} h k =
      let most : rounded_up (peak * e * e) (2 * per_pressure * q * p) ≤ peak * longest = up_least _ (omega (arith, mul-le-mul_left peak (mul-le-mul h k))) in
      omega (arith, over_length longest (omega arith))

  pub heel_moment_fits : {e : ℕ} → e ≤ 2 * p → e ≤ longest * q → rounded_up (peak * e * e * e) (48 * per_pressure * q * q * p) < 2 ^ 64
  heel_moment_fits {e} h k =
      let most : rounded_up (peak * e * e * e) (48 * per_pressure * q * q * p) ≤ peak * longest * longest = up_least _ (omega (arith, mul-le-mul_left peak (mul-le-mul h (mul-le-mul k k)))) in
      omega (arith, t.peak_most)
