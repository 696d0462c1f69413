-- Document 02, #105: what bears on the toe by the triangle that is there, in whole numbers. Its contact is p/q mm, and its peak P N/m2.
use mathlib.Core.Path.{◌≡◌, refl, sym, ap, ◌∙◌}
use Prim.Native.Nat.{ℕ, zero, suc, ◌+◌, ◌-◌, ◌*◌, ◌≤◌, ◌<◌}
use native.Mathlib.Nat.{one-mul, mul-pos}
use native.Mathlib.Omega.{arith}
use borrow.Author.Tests.{lt-ltb, le-ltb}
use lib.IntN.{pos, ◌-ℤ◌}
use Rattle.whole.specs.Rounding.{rounded_up}
use Rattle.whole.proofs.Integer.{pos_less, above_minus}
use Rattle.whole.proofs.Rounded.{up_alike, up_of_zero, up_exact}
use Rattle.rules.specs.declared.Fraction.{Fraction}
use Rattle.rules.specs.Bearing.{◌over◌, minus}
use Rattle.rules.specs.ToeAndStem.{scaled, per_pressure, plain, ended_shear, ended_moment, begun_shear, begun_moment, in_newtons}

-- ---- the pressure at a point of a triangle from the toe

pub scaled_is : (P twice p q : ℕ) → scaled P (pos p over pos q) twice ≡ rounded_up (P * (2 * p - q * twice)) (2 * p)
unfolding scaled
scaled_is P twice p q = rw (above_minus (pos (2 * p)) (q * twice))

-- at the toe's end it is the peak
pub scaled_start : (P p q : ℕ) → 0 < p → scaled P (pos p over pos q) 0 ≡ P
scaled_start P p q hp = let e : 2 * p - q * 0 ≡ 2 * p = omega arith in scaled_is P 0 p q ∙ rw e (up_exact P (omega arith))

-- ---- what bears on the toe

-- how far a triangle from the heel reaches past a section at i/j, in parts of which j times q make a mm
unfoldable pub past : ℕ → ℕ → ℕ → ℕ → ℕ → ℕ
past p q l i j = j * p - q * (j * l - i)

pub past_whole : (p q l i : ℕ) → past p q l i 1 ≡ p - q * (l - i)
unfolding past
past_whole p q l i = rw (one-mul p, one-mul l)

module _ (P p q : ℕ) (hp : 0 < p) (hq : 0 < q) where
  abbrev c : Fraction
  c = pos p over pos q

  -- from the toe: all of it
  pub all : (lt : ℕ) → p ≤ lt * q → in_newtons (ended_shear (plain P) c (plain lt)) ≡ rounded_up (P * p) (2 * per_pressure * q)
  unfolding in_newtons ended_shear
  all lt h = rw (le-ltb (lt * q) (p * 1) (omega arith)) (up_alike _ _ (omega arith) (omega arith) (omega arith))

  -- its part over lt
  pub over_toe : (lt : ℕ) → lt * q < p
      → in_newtons (ended_shear (plain P) c (plain lt)) ≡ rounded_up (P * lt * (2 * p - lt * q)) (2 * per_pressure * p)
  unfolding in_newtons ended_shear
  over_toe lt h =
      let d = 2 * p - lt * q in
      rw (lt-ltb (lt * q) (p * 1) (omega arith), pos_less (2 * p * 1) (lt * (1 * q)) d (omega arith))
      (up_alike (P * lt * d * (1 * q)) (P * lt * d) (omega (arith, mul-pos hp hq)) (omega arith) (omega arith))

  -- its moment about a, from which its end is short
  pub about_middle : (A : ℕ) → 2 * p ≤ A * q
      → in_newtons (ended_moment (plain P) c (pos A over pos 2)) ≡ rounded_up (P * p * (3 * A * q - 2 * p)) (12 * per_pressure * q * q)
  unfolding in_newtons ended_moment
  about_middle A h =
      let d = 3 * A * q - 2 * p in
      rw (pos_less (A * (q * 3)) (p * 1 * 2) d (omega arith))
      (up_alike (P * (p * 1) * d) (P * p * d) (omega (arith, mul-pos hq hq)) (omega (arith, mul-pos hq hq)) (omega arith))

  -- from the heel, on a base of length l, before a section at i/j
  module _ (l i j : ℕ) (hj : 0 < j) (within : p ≤ l * q) (on : i ≤ j * l) where
    abbrev z : Fraction
    z = minus (plain l) c

    abbrev x : Fraction
    x = pos i over pos j

    abbrev Z : ℕ
    Z = l * q - p

    abbrev e : ℕ
    e = past p q l i j

    begins : pos (l * q) -ℤ pos (p * 1) ≡ pos Z
    begins = pos_less (l * q) (p * 1) Z (omega arith)

    -- what lies behind the section, and what lies before the triangle, make up the base
    level : Z * j + j * p ≡ i * q + q * (j * l - i)
    level =
        let w = j * l - i in
        let f : i + w ≡ j * l = omega arith in
        let g : Z + p ≡ l * q = omega arith in
        omega (arith, ap (λ (k : ℕ). k * q) f, ap (λ (k : ℕ). k * j) g)

    -- nothing of it is before the section
    none : e ≡ 0 → (in_newtons (begun_shear (plain P) c z x) ≡ 0) × (in_newtons (begun_moment (plain P) c z x) ≡ 0)
    unfolding in_newtons begun_shear begun_moment past
    none h = rw (begins, le-ltb (Z * j) (i * (1 * q)) (omega (arith, level))) (up_of_zero _, up_of_zero _)

    -- its part before the section
    pub before_shear : in_newtons (begun_shear (plain P) c z x) ≡ rounded_up (P * e * e) (2 * per_pressure * j * j * q * p)
    unfolding in_newtons begun_shear past
    before_shear = go e refl
      where
        go : (n : ℕ) → e ≡ n → in_newtons (begun_shear (plain P) c z x) ≡ rounded_up (P * n * n) (2 * per_pressure * j * j * q * p)
        go zero h = let k : P * 0 * 0 ≡ 0 = omega arith in rw k ((none h).0 ∙ sym (up_of_zero _))
        go (suc n) h =
            let some = mul-pos hj hq in
            let k : Z * j + suc n ≡ i * q = omega (arith, level) in
            rw (begins, lt-ltb (Z * j) (i * (1 * q)) (omega arith), pos_less (i * (1 * q)) (Z * j) (suc n) (omega arith))
            (up_alike (P * (suc n * suc n) * (1 * q)) (P * suc n * suc n) (omega (arith, mul-pos some (mul-pos some hp)))
            (omega (arith, mul-pos (mul-pos hj some) hp)) (omega arith))

    pub before_moment : in_newtons (begun_moment (plain P) c z x) ≡ rounded_up (P * e * e * e) (6 * per_pressure * j * j * j * q * q * p)
    unfolding in_newtons begun_moment past
    before_moment = go e refl
      where
        go : (n : ℕ) → e ≡ n → in_newtons (begun_moment (plain P) c z x) ≡ rounded_up (P * n * n * n) (6 * per_pressure * j * j * j * q * q * p)
        go zero h = let k : P * 0 * 0 * 0 ≡ 0 = omega arith in rw k ((none h).1 ∙ sym (up_of_zero _))
        go (suc n) h =
            let some = mul-pos hj hq in
            let k : Z * j + suc n ≡ i * q = omega (arith, level) in
            rw (begins, lt-ltb (Z * j) (i * (1 * q)) (omega arith), pos_less (i * (1 * q)) (Z * j) (suc n) (omega arith))
            (up_alike (P * (suc n * (suc n * suc n)) * (1 * q)) (P * suc n * suc n * suc n) (omega (arith, mul-pos some (mul-pos some (mul-pos some hp))))
            (omega (arith, mul-pos (mul-pos hj some) (mul-pos some hp))) (omega arith))

    pub past_most : e ≤ i * q
    unfolding past
    past_most = omega (arith, level)
