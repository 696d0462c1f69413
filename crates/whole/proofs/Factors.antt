-- Products of two, three and four small factors are below 2 ^ 63, and so fit 64 bits.
use Prim.Native.Nat.{ℕ, ◌*◌, ◌<◌, ◌^◌}
use native.Mathlib.Nat.{mul-le-mul}
use native.Mathlib.Omega.{arith}
use mir.Syntax.{w64}
use mir.Val.{Fits}

-- what is within 63 bits fits 64
within : {n : ℕ} → n < 2 ^ 63 → Fits w64 n
within h = record { fits = omega arith }

-- a product is below the product of its factors' bounds
below : {a b m n : ℕ} → a < m → b < n → a * b < m * n
below h k = omega (arith, mul-le-mul h k)

pub two_fit : {a b : ℕ} → (a < 2 ^ 31) × (b < 2 ^ 31) → Fits w64 (a * b)
two_fit h = within (omega (arith, below h.0 h.1))

pub three_fit : {a b c : ℕ} → (a < 2 ^ 15) × (b < 2 ^ 15) × (c < 2 ^ 15) → Fits w64 (a * b * c)
three_fit h = two_fit (omega (arith, below h.0 h.1))

-- a product of two products
pub pairs_fit : {a b c d : ℕ} → (a < 2 ^ 15) × (b < 2 ^ 15) × (c < 2 ^ 15) × (d < 2 ^ 15) → Fits w64 (a * b * (c * d))
pairs_fit h = two_fit (omega (arith, below h.0 h.1, below h.2 h.3))

-- and of four, one after the other
pub four_fit : {a b c d : ℕ} → (a < 2 ^ 15) × (b < 2 ^ 15) × (c < 2 ^ 15) × (d < 2 ^ 15) → Fits w64 (a * b * c * d)
four_fit h = within (omega (arith, below (below h.0 h.1) (below h.2 h.3)))

-- a square, a small number of times
pub square_fit : {a b : ℕ} → (a < 2 ^ 15) × (b < 2 ^ 24) → Fits w64 (a * (b * b))
square_fit h = within (omega (arith, below h.0 (below h.1 h.1)))
