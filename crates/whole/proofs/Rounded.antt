-- The laws of a / b rounded up, down and to the nearest: which whole number each is, and how they compare. Assumes nothing.
use mathlib.Core.Path.{◌≡◌, sym, ap}
use mathlib.Core.Logic.{◌≢◌, dite}
use Prim.Native.Nat.{ℕ, zero, suc, ◌+◌, ◌-◌, ◌*◌, ◌/◌, ◌%◌, ◌≤◌, ◌<◌, max}
use native.Mathlib.Nat.{div-zero, zero-div, div-add-mod', mod-lt, le-mul_of_pos_right, div-mul-le_self, lt-div-mul-add, le-div_iff_mul-le, div-lt_iff_lt-mul, div-eq_of_lt-le, le_trans, mul-pos, mul-le-mul_right, le_of_mul-le-mul_right, div-div-eq-div-mul}
use native.Mathlib.Decide.{dec_lt}
use native.Mathlib.Omega.{arith}
use Rattle.whole.specs.Rounding.{rounded_up, rounded_down, rounded_nearest}

-- the quotient and the rest make up a, the rest is below b, and the quotient is at most b times itself
pub parts : (a : ℕ) {b : ℕ} → 0 < b → (a / b * b + a % b ≡ a) × (a % b < b) × (a / b ≤ a / b * b)
parts a {b} h = (div-add-mod' a b, mod-lt a h, le-mul_of_pos_right (a / b) h)

-- ---- by 0 each is 0
pub up_by_zero : (a : ℕ) → rounded_up a 0 ≡ 0
unfolding rounded_up
up_by_zero a = div-zero (a + 0)

pub down_by_zero : (a : ℕ) → rounded_down a 0 ≡ 0
unfolding rounded_down
down_by_zero a = div-zero a

pub nearest_by_zero : (a : ℕ) → rounded_nearest a 0 ≡ 0
unfolding rounded_nearest
nearest_by_zero a = div-zero (2 * a + 0)

-- ---- rounded up: the least number that is enough
-- it is enough
pub up_enough : (a : ℕ) {b : ℕ} → 0 < b → a ≤ rounded_up a b * b
unfolding rounded_up
up_enough a {b} h = omega (arith, lt-div-mul-add {a = a + (b - 1)} h)

-- and less than one too much
pub up_tight : (a : ℕ) {b : ℕ} → 0 < b → rounded_up a b * b < a + b
unfolding rounded_up
up_tight a {b} h = omega (arith, div-mul-le_self (a + (b - 1)) b)

-- whatever is enough is no less
pub up_least : {a n : ℕ} (b : ℕ) → a ≤ n * b → rounded_up a b ≤ n
unfolding rounded_up
up_least {a} zero h = omega (arith, div-zero (a + 0))
up_least {a} {n} (suc b) h = let k = (div-lt_iff_lt-mul {k = suc b} {x = a + (suc b - 1)} {y = suc n} (omega arith)).1 (omega arith) in omega arith

-- a number that is enough, where one less would not be, is the one
pub up_only : (a : ℕ) {b n : ℕ} → 0 < b → a ≤ n * b → n * b < a + b → n ≡ rounded_up a b
unfolding rounded_up
up_only a {b} {n} h low high = sym (div-eq_of_lt-le b (omega arith) (omega arith))

-- by the quotient and the rest: the quotient where nothing is left over, and else one more
pub up_even : (a : ℕ) {b : ℕ} → 0 < b → a % b ≡ 0 → a / b ≡ rounded_up a b
up_even a h e = let p = parts a h in up_only a h (omega arith) (omega arith)

pub up_over : (a : ℕ) {b : ℕ} → 0 < b → a % b ≢ 0 → a / b + 1 ≡ rounded_up a b
up_over a h e = let p = parts a h in up_only a h (omega arith) (omega arith)

-- ---- rounded down: the greatest number that is not too much
-- it is not too much
pub down_within : (a b : ℕ) → rounded_down a b * b ≤ a
unfolding rounded_down
down_within a b = div-mul-le_self a b

-- whatever is not too much is no greater
pub down_greatest : {a b n : ℕ} → 0 < b → n * b ≤ a → n ≤ rounded_down a b
unfolding rounded_down
down_greatest h k = (le-div_iff_mul-le h).1 k

-- a number that is not too much, where one more would be, is the one
pub down_only : (a : ℕ) {b n : ℕ} → 0 < b → n * b ≤ a → a < n * b + b → n ≡ rounded_down a b
unfolding rounded_down
down_only a {b} {n} h low high = sym (div-eq_of_lt-le b low (omega arith))

-- ---- rounded to the nearest: within a half, and up from the half on
-- at most a half of b too much
pub nearest_low : (a b : ℕ) → 2 * (rounded_nearest a b * b) ≤ 2 * a + b
unfolding rounded_nearest
nearest_low a b = omega (arith, div-mul-le_self (2 * a + b) (2 * b))

-- less than a half of b too little
pub nearest_high : (a : ℕ) {b : ℕ} → 0 < b → 2 * a < 2 * (rounded_nearest a b * b) + b
unfolding rounded_nearest
nearest_high a {b} h = omega (arith, lt-div-mul-add {a = 2 * a + b} {b = 2 * b} (omega arith))

-- no other number keeps both bounds
pub nearest_only : (a : ℕ) {b n : ℕ} → 0 < b → 2 * (n * b) ≤ 2 * a + b → 2 * a < 2 * (n * b) + b → n ≡ rounded_nearest a b
unfolding rounded_nearest
nearest_only a {b} {n} h low high = sym (div-eq_of_lt-le (2 * b) (omega arith) (omega arith))

-- by the quotient and the rest: the quotient where the rest is less than what it lacks of b, and else one more
pub nearest_under : (a : ℕ) {b : ℕ} → 0 < b → a % b < b - a % b → a / b ≡ rounded_nearest a b
nearest_under a h k = let p = parts a h in nearest_only a h (omega arith) (omega arith)

pub nearest_over : (a : ℕ) {b : ℕ} → 0 < b → b - a % b ≤ a % b → a / b + 1 ≡ rounded_nearest a b
nearest_over a h k = let p = parts a h in nearest_only a h (omega arith) (omega arith)

-- at the half it goes up
pub nearest_half : (a k : ℕ) {b : ℕ} → 2 * a ≡ (2 * k + 1) * b → 0 < b → rounded_nearest a b ≡ k + 1
nearest_half a k e h = sym (nearest_only _ h (omega arith) (omega arith))

-- ---- where nothing is left over, each is the quotient
pub up_exact : (n : ℕ) {b : ℕ} → 0 < b → rounded_up (n * b) b ≡ n
up_exact n h = sym (up_only _ h (omega arith) (omega arith))

pub down_exact : (n : ℕ) {b : ℕ} → 0 < b → rounded_down (n * b) b ≡ n
down_exact n h = sym (down_only _ h (omega arith) (omega arith))

pub nearest_exact : (n : ℕ) {b : ℕ} → 0 < b → rounded_nearest (n * b) b ≡ n
nearest_exact n h = sym (nearest_only _ h (omega arith) (omega arith))

-- ---- where there is more to divide, none is less
div_mono : {x y : ℕ} (b : ℕ) → x ≤ y → x / b ≤ y / b
div_mono {x} {y} zero h = omega (arith, div-zero x)
div_mono {x} {y} (suc b) h = (le-div_iff_mul-le {k = suc b} (omega arith)).1 (le_trans (div-mul-le_self x (suc b)) h)

pub up_mono : {a c : ℕ} (b : ℕ) → a ≤ c → rounded_up a b ≤ rounded_up c b
unfolding rounded_up
up_mono b h = div_mono b (omega arith)

pub down_mono : {a c : ℕ} (b : ℕ) → a ≤ c → rounded_down a b ≤ rounded_down c b
unfolding rounded_down
down_mono b h = div_mono b h

pub nearest_mono : {a c : ℕ} (b : ℕ) → a ≤ c → rounded_nearest a b ≤ rounded_nearest c b
unfolding rounded_nearest
nearest_mono b h = div_mono (2 * b) (omega arith)

-- a fraction that is no greater is rounded up to no more, and so equal ones are rounded up alike
pub up_across : (a b c : ℕ) {d : ℕ} → 0 < d → a * d ≤ c * b → rounded_up a b ≤ rounded_up c d
up_across a b c {d} h k =
    up_least b (le_of_mul-le-mul_right {k = d} (omega (arith, mul-le-mul_right b (up_enough c h))) h)

pub up_alike : (a c : ℕ) {b d : ℕ} → 0 < b → 0 < d → a * d ≡ c * b → rounded_up a b ≡ rounded_up c d
up_alike a c {b} {d} h k e = omega (arith, up_across a b c k (omega arith), up_across c d a h (omega arith))

-- and so it is where they are rounded down
pub down_across : (a c : ℕ) {b d : ℕ} → 0 < b → 0 < d → a * d ≤ c * b → rounded_down a b ≤ rounded_down c d
down_across a c {b} {d} h k e =
    down_greatest k (le_of_mul-le-mul_right {k = b} (omega (arith, mul-le-mul_right d (down_within a b))) h)

pub down_alike : (a c : ℕ) {b d : ℕ} → 0 < b → 0 < d → a * d ≡ c * b → rounded_down a b ≡ rounded_down c d
down_alike a c h k e = omega (arith, down_across a c h k (omega arith), down_across c a k h (omega arith))

-- ---- the three against one another, at any divisor
-- down is at most the nearest
pub down_nearest : (a b : ℕ) → rounded_down a b ≤ rounded_nearest a b
down_nearest a zero = omega (arith, down_by_zero a)
down_nearest a (suc b) =
    let h = nearest_mono (suc b) (down_within a (suc b)) in
    omega (arith, nearest_exact (rounded_down a (suc b)) {b = suc b} (omega arith))

-- the nearest is at most up
pub nearest_up : (a b : ℕ) → rounded_nearest a b ≤ rounded_up a b
nearest_up a zero = omega (arith, nearest_by_zero a)
nearest_up a (suc b) =
    let h = nearest_mono (suc b) (up_enough a {b = suc b} (omega arith)) in
    omega (arith, nearest_exact (rounded_up a (suc b)) {b = suc b} (omega arith))

-- up is at most one more than down
pub up_down : (a b : ℕ) → rounded_up a b ≤ rounded_down a b + 1
unfolding rounded_down
up_down a zero = omega (arith, up_by_zero a)
up_down a (suc b) = up_least (suc b) (omega (arith, lt-div-mul-add {a = a} {b = suc b} (omega arith)))

-- up is no more than what is divided
pub up_within : (a b : ℕ) → rounded_up a b ≤ a
up_within a zero = omega (arith, up_by_zero a)
up_within a (suc b) = up_least (suc b) (omega arith)

-- what is enough is no less than the nearest either
pub nearest_least : {a n : ℕ} (b : ℕ) → a ≤ n * b → rounded_nearest a b ≤ n
nearest_least {a} b h = le_trans (nearest_up a b) (up_least b h)

-- ---- nothing, divided, gives nothing
pub up_of_zero : (b : ℕ) → rounded_up 0 b ≡ 0
up_of_zero b = let h = up_least {a = 0} {n = 0} b (omega arith) in omega arith

pub down_of_zero : (b : ℕ) → rounded_down 0 b ≡ 0
unfolding rounded_down
down_of_zero b = zero-div b

pub nearest_of_zero : (b : ℕ) → rounded_nearest 0 b ≡ 0
nearest_of_zero b = omega (arith, nearest_up 0 b, up_of_zero b)

-- ---- what is rounded up is rounded alike where both numbers are k times as great
pub up_scaled : (a b : ℕ) {k : ℕ} → 0 < k → rounded_up (a * k) (b * k) ≡ rounded_up a b
up_scaled a zero {k} h = let e : 0 * k ≡ 0 = omega arith in rw (e, up_by_zero (a * k), up_by_zero a)
up_scaled a (suc b) {k} h = up_alike (a * k) a (mul-pos {m = suc b} (omega arith) h) (omega arith) (omega arith)

-- ---- rounded twice, the same way each time, is rounded once
pub up_twice : (a b k : ℕ) → rounded_up (rounded_up a b) k ≡ rounded_up a (b * k)
up_twice a zero k = let e : 0 * k ≡ 0 = omega arith in rw (e, up_by_zero) (up_of_zero k)
up_twice a (suc b) zero = let e : suc b * 0 ≡ 0 = omega arith in rw (e, up_by_zero (rounded_up a (suc b)), up_by_zero a)
up_twice a (suc b) (suc k) =
    let once = rounded_up a (suc b * suc k) in
    let first = rounded_up a (suc b) in
    let most : first ≤ once * suc k = up_least (suc b) (omega (arith, up_enough a (mul-pos {m = suc b} {n = suc k} (omega arith) (omega arith)))) in
    let enough : a ≤ rounded_up first (suc k) * (suc b * suc k) =
    omega (arith, up_enough a {b = suc b} (omega arith), mul-le-mul_right (suc b) (up_enough first {b = suc k} (omega arith))) in
    omega (arith, up_least (suc k) most, up_least (suc b * suc k) enough)

pub down_twice : (a b k : ℕ) → rounded_down (rounded_down a b) k ≡ rounded_down a (b * k)
unfolding rounded_down
down_twice a b k = div-div-eq-div-mul a b k

-- ---- a product, divided part by part: the quotient of its first factor, and then what is left of that
pub down_by_parts : (n a : ℕ) {b : ℕ} → 0 < b → n / b * a + n % b * a / b ≡ rounded_down (n * a) b
down_by_parts n a {b} h =
    let p = parts n h in
    let q = parts (n % b * a) h in
    down_only (n * a) h (omega (arith, ap (λ (k : ℕ). k * a) p.0)) (omega (arith, ap (λ (k : ℕ). k * a) p.0))

-- ---- the greater of two numbers is rounded up to the greater
pub up_max : (a c b : ℕ) → rounded_up (max a c) b ≡ max (rounded_up a b) (rounded_up c b)
up_max a c b =
    dite (dec_lt a c) (λ h. let e : max a c ≡ c = omega arith in rw e (omega (arith, up_mono {a = a} {c = c} b (omega arith))))
    (λ h. let e : max a c ≡ a = omega arith in rw e (omega (arith, up_mono {a = c} {c = a} b (omega arith))))
