-- Request #104: the lever arm by a root, as BS 8110-1, 3.4.4.4 has it. For every moment, strength and depth it is document 01's Z.
--     K = M / (b d^2 fcu)
--     z = d (0.5 + root of (0.25 - K / 0.9)), but not greater than 0.95 d
-- The width b is 1000 mm, D is 2d and Z is 2z. With q for D^2 K / 0.9, which is M / (225 fcu), Z before its limit is (D + root of (D^2 - 4q)) / 2.
use mathlib.Core.Path.{◌≡◌, refl, sym, ◌∙◌}
use mathlib.Core.Logic.{dite}
use mathlib.Core.Bool.{Bool, true, false, ◌&&◌, cond, and-eq-true_iff}
use Prim.Native.Nat.{ℕ, zero, suc, ◌+◌, ◌-◌, ◌*◌, ◌/◌, ◌%◌, ◌≤◌, ◌<◌, min}
use native.Mathlib.Nat.{mul-le-mul, mul-le-mul_left, mul-le-mul_right, min-eq_left, min-eq_right}
use native.Mathlib.Decide.{dec_lt}
use native.Mathlib.Omega.{arith}
use borrow.Author.Tests.{le-leb, leb-true, ltb-true, ltb-false}
use lib.Dec.{T, leb, ltb}
use lib.Ieee.Bits.{is_true}
use Rattle.whole.specs.Rounding.{rounded_up}
use Rattle.whole.proofs.Rounded.{up_enough, up_least}
use Rattle.whole.proofs.Root.{IsRoot, square_less, root_greatest, root_exists}
use Rattle.rules.specs.Forces.{squared}
use Rattle.rules.specs.ToeAndStem.{bears, greatest, lever_arm}
use Rattle.rules.proofs.Lever.{tested, passes, found, greatest_is, greatest_only}

-- ---- the way by the root

-- q: M is borne at a Z just where Z (D - Z) is no less
abbrev pub least_product : ℕ → ℕ → ℕ
least_product M fcu = rounded_up M (225 * fcu)

-- D^2 - 4q
abbrev pub under_root : ℕ → ℕ → ℕ → ℕ
under_root M fcu D = squared D - 4 * least_product M fcu

-- K / 0.9 is more than 0.25: no Z bears M, since Z (D - Z) is greatest in the middle
abbrev pub is_impossible : ℕ → ℕ → ℕ → Bool
is_impossible M fcu D = ltb (225 * fcu * (squared D / 4)) M

-- Z before its limit, of a root; the last half millimetre is settled downwards
abbrev pub by_root : ℕ → ℕ → ℕ → ℕ → ℕ
by_root M fcu D root = cond (is_impossible M fcu D) 0 ((D + root) / 2)

-- 0.95 D
abbrev pub limit : ℕ → ℕ
limit D = 19 * D / 20

-- ---- document 01's tests but for the limit

unfoldable pub bears_unlimited : ℕ → ℕ → ℕ → ℕ → Bool
bears_unlimited M fcu D Z = leb D (2 * Z) && leb M (225 * fcu * Z * (D - Z))

-- the greatest number up to D that passes them
unfoldable pub unlimited_arm : ℕ → ℕ → ℕ → ℕ
unlimited_arm M fcu D = greatest (bears_unlimited M fcu D) D

record Unlimited (M fcu D Z : ℕ) : Type 0 where
  low : D ≤ 2 * Z
  strong : M ≤ 225 * fcu * Z * (D - Z)

-- ---- the product Z (D - Z)

-- where Z is beyond the middle by half of y, four times the product is D^2 less y^2
apart : (D Z y : ℕ) → 2 * Z ≡ D + y → Z ≤ D → 4 * (Z * (D - Z)) + y * y ≡ squared D
apart D Z y e h = go (D - Z) (omega arith) (omega arith)
  where
    go : (v : ℕ) → Z ≡ v + y → D ≡ v + y + v → 4 * (Z * v) + y * y ≡ squared D
    go v eZ eD = rw (eZ, eD) (omega arith)

-- so it falls from the middle on
falls : (D Z Y : ℕ) → D ≤ 2 * Z → Z ≤ Y → Y ≤ D → Y * (D - Y) ≤ Z * (D - Z)
falls D Z Y low h k =
    let less : 2 * Z - D ≤ 2 * Y - D = omega arith in
    omega (arith, apart D Z (2 * Z - D) (omega arith) (omega arith), apart D Y (2 * Y - D) (omega arith) k, mul-le-mul less less)

module _ (M fcu D : ℕ) where
  told : (Z : ℕ) → T (bears_unlimited M fcu D Z) → Unlimited M fcu D Z
  unfolding bears_unlimited
  told Z t = omega (arith, leb-true, simp and-eq-true_iff at (is_true (bears_unlimited M fcu D Z) t))

  holds : {Z : ℕ} → Unlimited M fcu D Z → T (bears_unlimited M fcu D Z)
  unfolding bears_unlimited
  holds u = rw (le-leb _ _ u.low, le-leb _ _ u.strong) tt

  -- where M is too great, nothing bears it
  pub impossible : 225 * fcu * (squared D / 4) < M → unlimited_arm M fcu D ≡ 0
  unfolding unlimited_arm
  impossible h = greatest_only (bears_unlimited M fcu D) D 0 (omega arith) (λ Z k t. absurd (clash Z k (told Z t))) (λ l. absurd (omega arith))
    where
      clash : (Z : ℕ) → Z ≤ D → Unlimited M fcu D Z → ⊥
      clash Z k u =
          let most : Z * (D - Z) ≤ squared D / 4 = omega (arith, apart D Z (2 * Z - D) (omega (arith, u.low)) k) in
          omega (arith, u.strong, mul-le-mul_left (225 * fcu) most)

  module _ (h : M ≤ 225 * fcu * (squared D / 4)) where
    -- q is the least product that is enough; without any strength M is 0, and so is q
    enough : {x : ℕ} → least_product M fcu ≤ x → M ≤ 225 * fcu * x
    enough {x} k = go (225 * fcu) h k
      where
        go : (s : ℕ) → M ≤ s * (squared D / 4) → rounded_up M s ≤ x → M ≤ s * x
        go zero h k = omega arith
        go (suc s) h k = omega (arith, up_enough M {b = suc s} (omega arith), mul-le-mul_right (suc s) k)

    least : {x : ℕ} → M ≤ 225 * fcu * x → least_product M fcu ≤ x
    least k = up_least (225 * fcu) (omega arith)

    -- four times it is no more than D^2, so that there is a root
    pub within : 4 * least_product M fcu ≤ squared D
    within = omega (arith, least h)

    module _ (root : ℕ) (is : IsRoot (under_root M fcu D) root) where
      pub root_most : root ≤ D
      root_most = omega (arith, square_less {x = root} {y = D + 1} (omega (arith, is.0)))

      -- M is borne just where Z isn't beyond the middle by more than half the root
      near : (Z : ℕ) → Z ≤ D → Unlimited M fcu D Z → 2 * Z ≤ D + root
      near Z k u =
          let e = apart D Z (2 * Z - D) (omega (arith, u.low)) k in
          let g = root_greatest {x = 2 * Z - D} is (omega (arith, least {x = Z * (D - Z)} (omega (arith, u.strong)))) in
          omega arith

      borne : (Z y : ℕ) → 2 * Z ≡ D + y → Z ≤ D → y ≤ root → M ≤ 225 * fcu * Z * (D - Z)
      borne Z y e k l = omega (arith, enough {x = Z * (D - Z)} (omega (arith, apart D Z y e k, mul-le-mul l l, is.0, within)))

      -- half of D and the root is not below the middle: a root of 0 is that of 0, and then D is even
      half : D ≤ 2 * ((D + root) / 2)
      half = dite (dec_lt 0 root) (λ k. omega arith) (λ k. go (D / 2) (D % 2) (omega arith) (omega arith) (omega arith))
        where
          go : (j r : ℕ) → D ≡ 2 * j + r → r < 2 → root ≡ 0 → D ≤ 2 * ((D + root) / 2)
          go j zero e k z = omega arith
          go j (suc zero) e k z = let odd : squared D ≡ 4 * (j * j) + 4 * j + 1 = rw e (omega arith) in absurd (omega (arith, within, rw z at is.1))
          go j (suc (suc r)) e k z = absurd (omega arith)

      pub upper : unlimited_arm M fcu D ≡ (D + root) / 2
      unfolding unlimited_arm
      upper =
          let Z = (D + root) / 2 in
          let most : Z ≤ D = omega (arith, root_most) in
          greatest_only (bears_unlimited M fcu D) D Z most (λ k l t. omega (arith, near k l (told k t)))
          (λ l. holds (record { low = half; strong = borne Z (2 * Z - D) (omega (arith, half)) most (omega arith) }))

  -- ---- and the limit of 0.95 D

  -- where M is borne at the limit, that is the lever arm
  pub at_limit : M ≤ 225 * fcu * limit D * (D - limit D) → lever_arm M fcu D ≡ limit D
  unfolding lever_arm
  at_limit h =
      greatest_only (bears M fcu D) D (limit D) (omega arith) (λ k l t. omega (arith, (tested M fcu D k t).high))
      (λ l. passes M fcu D (limit D) (record { high = omega arith; low = omega arith; strong = h }))

  no_less : M ≤ 225 * fcu * limit D * (D - limit D) → limit D ≤ unlimited_arm M fcu D
  unfolding unlimited_arm
  no_less h =
      dite (dec_lt 0 (limit D))
      (λ k. (found (bears_unlimited M fcu D) D (limit D) (omega arith) (holds (record { low = omega arith; strong = h }))).1) (λ k. omega arith)

  -- where it isn't, no greater Z bears it either
  short : 225 * fcu * limit D * (D - limit D) < M → unlimited_arm M fcu D ≤ limit D
  unfolding unlimited_arm
  short h = dite (dec_lt (limit D) U) (λ l. absurd (clash l (told U (is.1 (omega arith))))) (λ l. omega arith)
    where
      U : ℕ
      U = greatest (bears_unlimited M fcu D) D

      is : (U ≤ D) × (0 < U → T (bears_unlimited M fcu D U))
      is = greatest_is (bears_unlimited M fcu D) D

      clash : limit D < U → Unlimited M fcu D U → ⊥
      clash l u =
          dite (dec_lt (2 * limit D) D) (λ k. let z : D - U ≡ 0 = omega (arith, is.0) in omega (arith, rw z at u.strong))
          (λ k. omega (arith, u.strong, mul-le-mul_left (225 * fcu) (falls D (limit D) U (omega arith) (omega arith) is.0)))

  -- and the lever arm is the one without limit
  pub below_limit : 225 * fcu * limit D * (D - limit D) < M → lever_arm M fcu D ≡ unlimited_arm M fcu D
  unfolding lever_arm unlimited_arm
  below_limit h =
      let is = greatest_is (bears_unlimited M fcu D) D in
      greatest_only (bears M fcu D) D _ is.0 no_greater
      (λ l. let u = told _ (is.1 l) in passes M fcu D _ (record { high = omega (arith, short h); low = u.low; strong = u.strong }))
    where
      no_greater : (k : ℕ) → k ≤ D → T (bears M fcu D k) → k ≤ greatest (bears_unlimited M fcu D) D
      no_greater k l t =
          let b = tested M fcu D k t in
          (found (bears_unlimited M fcu D) D k l (holds (record { low = b.low; strong = b.strong }))).1

  -- so it is the lesser of the two
  limited : lever_arm M fcu D ≡ min (unlimited_arm M fcu D) (limit D)
  limited = dite (dec_lt (225 * fcu * limit D * (D - limit D)) M) (λ h. below_limit h ∙ sym (min-eq_left (short h))) (λ h. at (omega arith))
    where
      at : M ≤ 225 * fcu * limit D * (D - limit D) → lever_arm M fcu D ≡ min (unlimited_arm M fcu D) (limit D)
      at h = at_limit h ∙ sym (min-eq_right (no_less h))

-- ---- the theorem: whatever the moment, the strength and the depth, the way by the root gives Z, and there is a root

pub by_root_lem : (M fcu D root : ℕ) → IsRoot (under_root M fcu D) root → lever_arm M fcu D ≡ min (by_root M fcu D root) (limit D)
by_root_lem M fcu D root is = rw (← go (is_impossible M fcu D) refl) (limited M fcu D)
  where
    go : (b : Bool) → is_impossible M fcu D ≡ b → unlimited_arm M fcu D ≡ cond b 0 ((D + root) / 2)
    go true e = impossible M fcu D (omega (arith, ltb-true, e))
    go false e = upper M fcu D (omega (arith, ltb-false, e)) root is

pub always : (M fcu D : ℕ) → (root : ℕ) × IsRoot (under_root M fcu D) root × (lever_arm M fcu D ≡ min (by_root M fcu D root) (limit D))
always M fcu D = let found = root_exists (under_root M fcu D) in (found.0, found.1, by_root_lem M fcu D found.0 found.1)

-- ---- as it is worked by hand: P2, where D and the root are even together, and P9, where a half millimetre is left

pub P2 : IsRoot (under_root 232500000 35 585) 473 × (by_root 232500000 35 585 473 ≡ 529)
unfolding rounded_up
P2 = (omega arith, refl)

pub P9 : IsRoot (under_root 352257360 35 508) 281 × (by_root 352257360 35 508 281 ≡ 394)
unfolding rounded_up
P9 = (omega arith, refl)
