-- Document 01, "Toe and stem", of the lever arm: it passes the three tests, no greater number does, and wherever compression steel isn't needed there is one.
use mathlib.Core.Path.{◌≡◌, refl, subst}
use mathlib.Core.Logic.{⊎_elim}
use mathlib.Core.Bool.{Bool, true, false, not, and-eq-true_iff}
use Prim.Native.Nat.{ℕ, zero, suc, ◌+◌, ◌-◌, ◌*◌, ◌/◌, ◌≤◌, ◌<◌}
use native.Mathlib.Nat.{eq-or-lt_of_le, mul-le-mul_left}
use native.Mathlib.Omega.{arith}
use borrow.Author.Tests.{le-leb, leb-true}
use lib.Dec.{T, nltb→le}
use lib.Ieee.Bits.{is_true}
use Rattle.rules.specs.declared.Section.{Section}
use Rattle.rules.specs.JobFile.{Wall, wall_fits, toe_bar, stem_bar, heel_bar}
use Rattle.rules.specs.Forces.{squared}
use Rattle.rules.specs.ToeAndStem.{toe_section, stem_section, heel_section, twice_depth, needs_compression, bears, greatest, lever_arm}
use Rattle.rules.proofs.Accepted.{ranged, bar_most}

-- the three tests of a lever arm, as document 01 has them
pub record Bears (M fcu D Z : ℕ) : Type 0 where
  pub high : 20 * Z ≤ 19 * D
  pub low : D ≤ 2 * Z
  pub strong : M ≤ 225 * fcu * Z * (D - Z)

pub tested : (M fcu D Z : ℕ) → T (bears M fcu D Z) → Bears M fcu D Z
unfolding bears
tested M fcu D Z t = omega (arith, leb-true, simp and-eq-true_iff at (is_true (bears M fcu D Z) t))

pub passes : (M fcu D Z : ℕ) → Bears M fcu D Z → T (bears M fcu D Z)
unfolding bears
passes M fcu D Z b = rw (le-leb _ _ b.high, le-leb _ _ b.low, le-leb _ _ b.strong) tt

-- ---- the greatest number that passes a test

module _ (p : ℕ → Bool) where
  -- where one up to n passes, the greatest passes, and is no less
  pub found : (n k : ℕ) → k ≤ n → T (p k) → T (p (greatest p n)) × (k ≤ greatest p n)
  unfolding greatest
  found zero k h t = let e : k ≡ 0 = omega arith in (subst (λ (m : ℕ). T (p m)) e t, h)
  found (suc n) k h t = go (p (suc n)) refl (found n k)
    where
      go : (b : Bool) → p (suc n) ≡ b → (k ≤ n → T (p k) → T (p (greatest p n)) × (k ≤ greatest p n))
          → T (p (elim b [ true ↦ suc n | false ↦ greatest p n ])) × (k ≤ elim b [ true ↦ suc n | false ↦ greatest p n ])
      go true e earlier = (rw e tt, h)
      go false e earlier =
          ⊎_elim (λ (s : k ≡ suc n). absurd (rw e at (subst (λ (m : ℕ). T (p m)) s t))) (λ (l : k < suc n). earlier (omega arith) t) (eq-or-lt_of_le h)

  -- it is no more than n, and passes unless it is 0
  pub greatest_is : (n : ℕ) → (greatest p n ≤ n) × (0 < greatest p n → T (p (greatest p n)))
  unfolding greatest
  greatest_is zero = (omega arith, λ h. absurd (omega arith))
  greatest_is (suc n) = go (p (suc n)) refl (greatest_is n)
    where
      go : (b : Bool) → p (suc n) ≡ b → (greatest p n ≤ n) × (0 < greatest p n → T (p (greatest p n)))
          → let z : ℕ = elim b [ true ↦ suc n | false ↦ greatest p n ] in (z ≤ suc n) × (0 < z → T (p z))
      go true e earlier = (omega arith, λ h. rw e tt)
      go false e earlier = (omega (arith, earlier.0), earlier.1)

  -- a number that none which passes exceeds, and that passes unless it is 0, is it
  pub greatest_only : (n Z : ℕ) → Z ≤ n → ((k : ℕ) → k ≤ n → T (p k) → k ≤ Z) → (0 < Z → T (p Z)) → greatest p n ≡ Z
  unfolding greatest
  greatest_only zero Z h none is = omega arith
  greatest_only (suc n) Z h none is = go (p (suc n)) refl (λ l. greatest_only n Z l (λ k i. none k (omega arith)) is)
    where
      go : (b : Bool) → p (suc n) ≡ b → (Z ≤ n → greatest p n ≡ Z) → elim b [ true ↦ suc n | false ↦ greatest p n ] ≡ Z
      go true e earlier = omega (arith, none (suc n) (omega arith) (rw e tt))
      go false e earlier =
          ⊎_elim (λ (s : Z ≡ suc n). absurd (rw (s, e) at (is (omega arith)))) (λ (l : Z < suc n). earlier (omega arith)) (eq-or-lt_of_le h)

-- ---- the lever arm

-- where some number keeps the three tests, the lever arm does, and is no less
pub lever_keeps : (M fcu D Z : ℕ) → Bears M fcu D Z → Bears M fcu D (lever_arm M fcu D)
unfolding lever_arm
lever_keeps M fcu D Z b = tested M fcu D _ (found (bears M fcu D) D Z (omega (arith, b.high)) (passes M fcu D Z b)).0

pub lever_greatest : (M fcu D Z : ℕ) → Bears M fcu D Z → Z ≤ lever_arm M fcu D
unfolding lever_arm
lever_greatest M fcu D Z b = (found (bears M fcu D) D Z (omega (arith, b.high)) (passes M fcu D Z b)).1

-- half of D keeps them, if M is within what the concrete bears alone: 39 (x + y)^2 is at most 225 x y for the two halves x and y
halves : (x y : ℕ) → 1 ≤ y → y ≤ x → x ≤ y + 1 → 39 * ((x + y) * (x + y)) ≤ 225 * (x * y)
halves x y h k l =
    ⊎_elim (λ (e : y ≡ x). rw (← e) (omega arith)) (λ (s : y < x). let e : x ≡ y + 1 = omega arith in rw e (omega arith)) (eq-or-lt_of_le k)

half_bears : (M fcu D : ℕ) → 2 ≤ D → M ≤ 39 * fcu * squared D → Bears M fcu D (D - D / 2)
half_bears M fcu D h k =
    record { high = omega arith; low = omega arith; strong = strong (D - D / 2) (D / 2) (omega arith) (omega arith) (omega arith) (omega arith) (omega arith) }
  where
    strong : (x y : ℕ) → D ≡ x + y → D - x ≡ y → 1 ≤ y → y ≤ x → x ≤ y + 1 → M ≤ 225 * fcu * x * (D - x)
    strong x y e d a b c = rw d (omega (arith, mul-le-mul_left fcu (halves x y a b c), rw e at k))

pub lever_exists : (M fcu D : ℕ) → 2 ≤ D → M ≤ 39 * fcu * squared D → Bears M fcu D (lever_arm M fcu D)
lever_exists M fcu D h k = lever_keeps M fcu D (D - D / 2) (half_bears M fcu D h k)

-- ---- the sections of an accepted wall

-- D is at least 2
pub toe_depth : (wall : Wall) → T (wall_fits wall) → 2 ≤ twice_depth (toe_section wall)
unfolding twice_depth
toe_depth wall fits = let of = ranged wall fits in omega (arith, of 6 tt, of 24 tt, bar_most (toe_bar wall) (of 25 tt))

pub stem_depth : (wall : Wall) → T (wall_fits wall) → 2 ≤ twice_depth (stem_section wall)
unfolding twice_depth
stem_depth wall fits = let of = ranged wall fits in omega (arith, of 3 tt, of 27 tt, bar_most (stem_bar wall) (of 28 tt))

pub heel_depth : (wall : Wall) → T (wall_fits wall) → 2 ≤ twice_depth (heel_section wall)
unfolding twice_depth
heel_depth wall fits = let of = ranged wall fits in omega (arith, of 6 tt, of 32 tt, bar_most (heel_bar wall) (of 33 tt))

-- unless a moment needs compression steel, the section's lever arm keeps the three tests
abbrev pub HasLever : Section → Type 0
HasLever s =
    (M : ℕ) → T (not (needs_compression M s.concrete (twice_depth s)))
    → Bears M s.concrete (twice_depth s) (lever_arm M s.concrete (twice_depth s))

pub deep_lever : (s : Section) → 2 ≤ twice_depth s → HasLever s
unfolding needs_compression
deep_lever s h M t = lever_exists M s.concrete (twice_depth s) h (nltb→le (39 * s.concrete * squared (twice_depth s)) M t)

pub toe_lever : (wall : Wall) → T (wall_fits wall) → HasLever (toe_section wall)
toe_lever wall fits = deep_lever (toe_section wall) (toe_depth wall fits)

pub stem_lever : (wall : Wall) → T (wall_fits wall) → HasLever (stem_section wall)
stem_lever wall fits = deep_lever (stem_section wall) (stem_depth wall fits)

pub heel_lever : (wall : Wall) → T (wall_fits wall) → HasLever (heel_section wall)
heel_lever wall fits = deep_lever (heel_section wall) (heel_depth wall fits)
