-- Sums by columns: what is carried out of one goes into the next, and three of them make a wide number.
use Rattle.std.proofs.Common.{◌≡◌, ℕ, ◌+◌, ◌*◌, ap, add-zero, add_assoc, mul_assoc, add-mul, mul-add, arith}
use native.Mathlib.Nat.{add_left_comm}
use Rattle.wide.specs.Value.{base, size, value}
use Rattle.wide.specs.declared.Wide.{Wide}

-- in base B: the digit x, and c that is carried out, make up y and d that is carried in
pub record Column (B x c y d : ℕ) : Type 0 where
  pub sum : x + c * B ≡ y + d

-- a column and the one above it make one, in a greater base
joined : {B C x y x' y' c d e : ℕ} → Column B x c y d → Column C x' e y' c → Column (B * C) (x + B * x') e (y + B * y') d
joined {B} h k = record { sum = omega (arith, h.sum, ap (λ (n : ℕ). B * n) k.sum) }

pub three : {x y x' y' x'' y'' c d e f : ℕ}
    → Column base x c y d
    → Column base x' e y' c
    → Column base x'' f y'' e
    → Column size (x + base * (x' + base * x'')) f (y + base * (y' + base * y'')) d
unfolding base size
three h k l = joined h (joined k l)

-- the columns of a product
pub scaled : (w : Wide) (f : ℕ) → w.low * f + base * (w.middle * f + base * (w.high * f)) + 0 ≡ value w * f
unfolding value
scaled w f = simp (add-mul, mul_assoc, add-zero)

-- and of a sum
pub summed : (v w : Wide) → v.low + w.low + base * (v.middle + w.middle + base * (v.high + w.high)) + 0 ≡ value v + value w
unfolding value
summed v w = simp (mul-add, add-zero, add_assoc, add_left_comm)
