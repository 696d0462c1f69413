-- The root of a number in whole numbers, and Newton's step towards it: from a guess within k of the root to one within k^2 / 2g. Assumes nothing.
use mathlib.Core.Path.{◌≡◌, refl}
use mathlib.Core.Logic.{dite}
use Prim.Native.Nat.{ℕ, zero, suc, ◌+◌, ◌-◌, ◌*◌, ◌/◌, ◌^◌, ◌≤◌, ◌<◌}
use native.Mathlib.Nat.{mul-le-mul, mul-le-mul_left, mul-le-mul_right, lt_of_mul-lt-mul_left, lt_of_mul-lt-mul_right, le_of_mul-le-mul_right}
use native.Mathlib.Decide.{dec_lt}
use native.Mathlib.Omega.{arith}
use lib.Count.{count_leading_zeros, leading_top}
use lib.Pow.{pow_mono, pow-add, shl_lt}
use Rattle.whole.proofs.Rounded.{parts}

-- ---- squares

-- the lesser square is that of the lesser number
pub square_less : {x y : ℕ} → x * x < y * y → x < y
square_less {x} {y} h = dite (dec_lt x y) (λ l. l) (λ k. let g : y ≤ x = omega arith in absurd (omega (arith, mul-le-mul g g)))

-- twice a product is at most the two squares
pub products : (x y : ℕ) → 2 * (x * y) ≤ x * x + y * y
products x y = dite (dec_lt x y) (λ h. apart x y (omega arith)) (λ h. omega (arith, apart y x (omega arith)))
  where
    apart : (x y : ℕ) → x ≤ y → 2 * (x * y) ≤ x * x + y * y
    apart x y h = let e : y ≡ x + (y - x) = omega arith in rw e (omega arith)

-- ---- the root: its square is at most n, and the next number's isn't

abbrev pub IsRoot : ℕ → ℕ → Type 0
IsRoot n r = (r * r ≤ n) × (n < (r + 1) * (r + 1))

-- no number whose square is at most n is greater
pub root_greatest : {n r x : ℕ} → IsRoot n r → x * x ≤ n → x ≤ r
root_greatest {n} {r} {x} is h = let l = square_less {x = x} {y = r + 1} (omega arith) in omega arith

-- so there is only one
pub root_only : (n : ℕ) {r s : ℕ} → IsRoot n r → IsRoot n s → r ≡ s
root_only n is its = omega (arith, root_greatest is its.0, root_greatest its is.0)

-- and every number has one
pub root_exists : (n : ℕ) → (r : ℕ) × IsRoot n r
root_exists zero = (0, omega arith)
root_exists (suc n) = go (root_exists n)
  where
    go : (r : ℕ) × IsRoot n r → (r : ℕ) × IsRoot (suc n) r
    go (r, is) = dite (dec_lt (suc n) ((r + 1) * (r + 1))) (λ h. (r, omega arith)) (λ h. (r + 1, omega arith))

-- ---- Newton's step

-- g is within k of the root of n
pub record Within (k n g : ℕ) : Type 0 where
  pub least : (g - k) * (g - k) ≤ n
  pub most : n < (g + k) * (g + k)

abbrev pub stepped : ℕ → ℕ → ℕ
stepped n g = (g + n / g) / 2

module _ (n g : ℕ) (h : 0 < g) where
  -- it is (g^2 + n) / 2g, rounded down
  halved : (2 * (g * stepped n g) ≤ g * g + n) × (g * g + n < 2 * (g * (stepped n g + 1)))
  halved =
      let p = parts n h in
      let low : 2 * stepped n g ≤ g + n / g = omega arith in
      let high : g + n / g + 1 ≤ 2 * (stepped n g + 1) = omega arith in
      (omega (arith, mul-le-mul_left g low), omega (arith, mul-le-mul_left g high))

  -- no step leads below the root
  pub not_below : n < (stepped n g + 1) * (stepped n g + 1)
  not_below = omega (arith, halved, products g (stepped n g + 1))

  -- nor further above it than next
  not_above : {k : ℕ} (next c : ℕ) → Within k n g → k * k ≤ 2 * (g * next) → stepped n g - next ≡ c → n < c * c → ⊥
  not_above next zero w small e over = absurd (omega arith)
  not_above {k} next (suc b) w small e over = dite (dec_lt g c) behind before
    where
      c : ℕ
      c = suc b

      half : 2 * (g * (c + next)) ≤ g * g + n
      half = let is : c + next ≡ stepped n g = omega arith in rw is halved.0

      far : k * k + 2 * (g * c) < g * g + c * c
      far = omega (arith, half)

      behind : g < c → ⊥
      behind l =
          let u : c ≡ g + (c - g) = omega arith in
          let k<u : k < c - g = square_less (omega (arith, rw u at far)) in
          let c<g+k = lt_of_mul-lt-mul_left g {m = c} {n = g + k} (omega (arith, half, w.most)) in
          omega arith

      before : (g < c → ⊥) → ⊥
      before f =
          let l : c ≤ g = omega arith in
          let u : g ≡ c + (g - c) = omega arith in
          let k<u : k < g - c = square_less (omega (arith, rw u at far)) in
          let c≤ : c ≤ g - k = omega arith in
          omega (arith, mul-le-mul c≤ c≤, w.least)

  pub nearer : {k : ℕ} (next : ℕ) → Within k n g → k * k ≤ 2 * (g * next) → 0 < next → Within next n (stepped n g)
  nearer {k} next w small some =
      let past = stepped n g - next in
      let more : stepped n g + 1 ≤ stepped n g + next = omega arith in
      record {
        least = dite (dec_lt n (past * past)) (λ l. absurd (not_above next past w small refl l)) (λ f. omega arith);
        most = omega (arith, not_below, mul-le-mul more more);
      }

-- ---- three steps for a number of 64 bits, of which one of the two highest is set

-- a guess within k of such a number's root, which has 32 bits
pub record Guess (k n g : ℕ) : Type 0 where
  pub near : Within k n g
  pub long : 2 ^ 31 ≤ g
  pub short : g ≤ 2 ^ 33

module _ (n : ℕ) (high : 2 ^ 62 ≤ n) (low : n < 2 ^ 64) where
  -- what is at least the root has so many bits
  bits : {g : ℕ} → n < (g + 1) * (g + 1) → 2 ^ 31 ≤ g
  bits {g} h = let l = square_less {x = 2 ^ 31} {y = g + 1} (omega arith) in omega arith

  -- a straight line: it is above the root by 2^28 at 2^62, and below by as much at 2^64
  pub on_line : Guess (2 ^ 28 + 1) n (n / 2 ^ 33 + 7 * 2 ^ 28)
  on_line = record { near = go (n / 2 ^ 33) (omega arith) (omega arith) (omega arith); long = omega arith; short = omega arith }
    where
      go : (a : ℕ) → 2 ^ 29 ≤ a → a * 2 ^ 33 ≤ n → n < (a + 1) * 2 ^ 33 → Within (2 ^ 28 + 1) n (a + 7 * 2 ^ 28)
      go a h under over =
          let u = a - 2 ^ 29 in
          let g : a + 7 * 2 ^ 28 - (2 ^ 28 + 1) ≤ 2 ^ 31 + u = omega arith in
          let k : u ≤ 2 ^ 32 = omega arith in
          record { least = omega (arith, mul-le-mul g g, mul-le-mul_right u k); most = omega (arith, products (a + 1) (2 ^ 31)) }

  -- a step leads from within k to within k^2 / 2g
  step : {k g : ℕ} (next : ℕ) → Guess k n g → k * k ≤ 2 * (g * next) → 0 < next → next ≤ 2 ^ 32 → Guess next n (stepped n g)
  step {g = g} next is small some few =
      let h : 0 < g = omega (arith, is.long) in
      let w = nearer n g h next is.near small some in
      record { near = w; long = bits (not_below n g h); short = omega (arith, square_less {x = stepped n g - next} {y = 2 ^ 32} (omega (arith, w.least))) }

  -- so that the third is within 1
  abbrev line : ℕ
  line = n / 2 ^ 33 + 7 * 2 ^ 28

  pub first : Guess (2 ^ 24) n (stepped n line)
  first = step (2 ^ 24) on_line (omega arith) (omega arith) (omega arith)

  pub second : Guess (2 ^ 16) n (stepped n (stepped n line))
  second = step (2 ^ 16) first (omega (arith, first.long)) (omega arith) (omega arith)

  pub third : Guess 1 n (stepped n (stepped n (stepped n line)))
  third = step 1 second (omega (arith, second.long)) (omega arith) (omega arith)

-- ---- any number of 64 bits, moved up by pairs of them until one of the two highest is set

-- how many pairs it has free
abbrev pub pairs : ℕ → ℕ
pairs n = count_leading_zeros 64 n / 2

module _ (n : ℕ) (h : 0 < n) (k : n < 2 ^ 64) where
  pub few : pairs n < 32
  few = let top = leading_top 64 n h k in omega (arith, top.1)

  pub full : (2 ^ 62 ≤ n * (2 ^ pairs n * 2 ^ pairs n)) × (n * (2 ^ pairs n * 2 ^ pairs n) < 2 ^ 64)
  full =
      let top = leading_top 64 n h k in
      let j = top.0 in
      let p = pairs n in
      let low : 2 ^ 62 ≤ 2 ^ (j + (p + p)) = pow_mono {i = 62} {j = j + (p + p)} (omega (arith, top.1)) in
      let high : 2 ^ (suc j + (p + p)) ≤ 2 ^ 64 = pow_mono {i = suc j + (p + p)} {j = 64} (omega (arith, top.1)) in
      rw (← pow-add 2 p p)
      (omega (arith, low, pow-add 2 j (p + p), mul-le-mul_right (2 ^ (p + p)) top.2), omega (arith, high, shl_lt {a = n} (suc j) (p + p) top.3))

-- n was multiplied by p^2, and the guess is divided by p again
pub moved_back : (n p : ℕ) {g : ℕ} → 0 < p → Within 1 (n * (p * p)) g → Within 1 n (g / p)
moved_back n p {g} h w =
    let f = g / p in
    let r = parts g h in
    let over : g + 1 ≤ (f + 1) * p = omega arith in
    let under : (f - 1) * p ≤ g - 1 = below f (omega arith) in
    record {
      least = le_of_mul-le-mul_right {k = p * p} (omega (arith, mul-le-mul under under, w.least)) (omega (arith, mul-le-mul h h));
      most = lt_of_mul-lt-mul_right (p * p) (omega (arith, mul-le-mul over over, w.most));
    }
  where
    below : (f : ℕ) → f * p ≤ g → (f - 1) * p ≤ g - 1
    below zero k = omega arith
    below (suc f) k = let e : suc f - 1 ≡ f = omega arith in rw e (omega arith)

-- a number within 1 of the root is the root, or one more; it is above 0 where n is
pub not_zero : {n g : ℕ} → 0 < n → Within 1 n g → 0 < g
not_zero {g = zero} h w = absurd (omega (arith, w.most))
not_zero {g = suc g} h w = omega arith

pub settled : {n g : ℕ} → Within 1 n g → g * g ≤ n → IsRoot n g
settled w h = (h, w.most)

pub settled_down : {n g : ℕ} → Within 1 n g → n < g * g → IsRoot n (g - 1)
settled_down {g = zero} w h = absurd (omega arith)
settled_down {g = suc g} w h = let e : suc g - 1 ≡ g = omega arith in (w.least, rw e (omega arith))
