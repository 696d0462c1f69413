-- Document 01, "The bearing block": a quotient in doubles of two whole numbers that doubles hold is the exact fraction, rounded once; by a divisor above 0 it is never a NaN.
use mathlib.Core.Path.{◌≡◌, refl, ◌∙◌}
use mathlib.Core.Bool.{Bool, true, false, not}
use Prim.Native.Nat.{ℕ, zero, suc, ◌+◌, ◌*◌, ◌<◌, ◌^◌}
use native.Mathlib.Nat.{mul-pos}
use native.Mathlib.Omega.{arith}
use lib.Dec.{ltb, eqb}
use lib.Ieee.{Float, nan, inf, fin, binary64, prec, emax, low, up, down, unlike, odd, units, round, div, of_int, is_nan}
use lib.Ieee.Back.{round_whole}
use lib.Ieee.Bits.{cond_no}
use lib.Ieee.Exact.{HasValue}
use lib.Ieee.Fits.{down_pos, round_is}
use lib.Ieee.Positive.{first_pos}
use lib.Ieee.Scale.{round_same}
use lib.IntN.{ℤ, pos, negsuc, nat_abs}
use lib.Signed.{◌<ℤ◌, non_neg}
use borrow.Author.Tests.{ne_eqb}
use Rattle.whole.proofs.Integer.{pos-<ℤ}
use Rattle.whole.proofs.Lists.{case}
use Rattle.rules.specs.Drawing.{quotient}
use Rattle.rules.proofs.Sizes.{Small}

-- ---- one division

-- a double holds a whole number: it has just the number's value
abbrev pub Held : ℤ → Type 0
Held z = HasValue (of_int binary64 z) (not (non_neg z)) (nat_abs z) 1

value : (z : ℤ) → Small (nat_abs z) → Held z
unfolding of_int
value (pos n) h = round_whole binary64 false n (omega arith)
value (negsuc n) h = round_whole binary64 true (suc n) (omega arith)

-- the exponents fall out of the fraction that is rounded
cancelled : (x y u v a b : ℕ) → 0 < u → 0 < v → 0 < b → x * 1 ≡ a * u → y * 1 ≡ b * v → (0 < y * u) × (x * v * b ≡ a * (y * u))
cancelled x y u v a b hu hv hb ex ey =
    let y-is : y ≡ b * v = omega arith in
    let x-is : x ≡ a * u = omega arith in
    rw (x-is, y-is) (mul-pos (mul-pos hb hv) hu, omega arith)

finite : (s t : Bool) (m n : ℕ) (e d : ℤ) → 0 < n → div binary64 (fin s m e) (fin t n d) ≡ round binary64 (unlike s t) (m * up e * down d) (n * up d * down e)
unfolding div
finite s t m n e d some = cond_no (eqb n 0) _ _ (rw (ne_eqb n 0 (λ none. omega arith)) tt)

divides : (x y : Float) (s t : Bool) (a b : ℕ) → 0 < b → HasValue x s a 1 → HasValue y t b 1 → div binary64 x y ≡ round binary64 (unlike s t) a b
divides (fin s' m e) (fin t' n d) s t a b some v w =
    let out = cancelled (m * up e) (n * up d) (down e) (down d) a b (down_pos e) (down_pos d) some v.1 w.1 in
    finite s' t' m n e d (first_pos n (up d) (first_pos (n * up d) (down e) out.0))
    ∙ rw (v.0, w.0) (round_same binary64 (unlike s t) (m * up e * down d) (n * up d * down e) a b out.0 some out.1)
divides nan y s t a b some v w = elim v [ ]
divides (inf _) y s t a b some v w = elim v [ ]
divides (fin s' m e) nan s t a b some v w = elim w [ ]
divides (fin s' m e) (inf _) s t a b some v w = elim w [ ]

-- what a drawing divides, rounded once
pub rounded_once : (a b : ℤ) → Small (nat_abs a) → Small (nat_abs b) → pos 0 <ℤ b
    → quotient a b ≡ round binary64 (not (non_neg a)) (nat_abs a) (nat_abs b)
unfolding quotient
rounded_once (pos m) (pos n) h k some = divides _ _ _ _ m n (pos-<ℤ.0 some) (value (pos m) h) (value (pos n) k)
rounded_once (negsuc m) (pos n) h k some = divides _ _ _ _ (suc m) n (pos-<ℤ.0 some) (value (negsuc m) h) (value (pos n) k)
rounded_once a (negsuc n) h k some = absurd some.lt

-- a figure is one division of two whole numbers that doubles hold, the second above 0: the exact fraction, rounded once to the nearest double
pub record OneDivision (a b : ℤ) (figure : Float) : Type 0 where
  pub divided : figure ≡ quotient a b
  pub dividend : Held a
  pub divisor : Held b
  pub some : pos 0 <ℤ b
  pub rounded : figure ≡ round binary64 (not (non_neg a)) (nat_abs a) (nat_abs b)

pub one_division : (a b : ℤ) → Small (nat_abs a) → Small (nat_abs b) → pos 0 <ℤ b → OneDivision a b (quotient a b)
one_division a b h k some =
    record { divided = refl; dividend = value a h; divisor = value b k; some = some; rounded = rounded_once a b h k some }

-- ---- no NaN

abbrev pub IsNumber : Float → Type 0
IsNumber x = is_nan x ≡ false

odd_number : (d : ℕ) (s : Bool) (q k l : ℕ) → IsNumber (odd d s q k l)
unfolding odd is_nan
odd_number d s zero k l = refl
odd_number d s (suc q) k l = refl

-- rounding gives a number or an infinity
units_number : (s : Bool) (q k : ℕ) → IsNumber (units binary64 s q k)
unfolding units is_nan
units_number s q k =
    case (ltb (q * 2 ^ k) (2 ^ (low binary64 + suc (emax binary64)))) (odd (suc (prec binary64)) s q k (low binary64)) (inf s) IsNumber
    (λ t. odd_number (suc (prec binary64)) s q k (low binary64)) (λ t. refl)

pub rounded : (s : Bool) (a b : ℕ) → IsNumber (round binary64 s a b)
rounded s a b = rw round_is (units_number s _ _)

pub division_number : {a b : ℤ} {figure : Float} → OneDivision a b figure → IsNumber figure
division_number {a} {b} d = rw d.rounded (rounded (not (non_neg a)) (nat_abs a) (nat_abs b))
