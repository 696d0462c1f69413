-- A number by its three digits: what bounds it, what the upper two are of it, that no other three make it, and that they tell which of two is less.
use Rattle.std.proofs.Common.{◌≡◌, ℕ, ◌+◌, ◌*◌, ◌/◌, ◌%◌, ◌^◌, ◌<◌, sym, ap, ◌∙◌, add-zero, mod-eq_of_lt, mul_comm, add_comm, mul-zero, arith}
use native.Mathlib.Nat.{div-eq_of_lt, add-mul-mod_self_left, add-mul-div_left}
use lib.Arith.{digits_lt}
use Rattle.std.specs.Cmp.{ranks, nat_cmp_is}
use Rattle.std.proofs.Common.{Ordering, Less, Equal, Greater}
use Rattle.std.specs.Ordering.{MatchOrdering, nat_cmp, ordering_then}
use Rattle.wide.specs.Value.{base, size, value, Digits, Is}
use Rattle.wide.specs.declared.Wide.{Wide}

pub below : {w : Wide} → Digits w → value w < size
unfolding value base size
below {w} h =
    rw (add_comm, mul_comm)
    (digits_lt {m = 2 ^ 128} (rw (add_comm, mul_comm) (digits_lt {q = w.high} {m = 2 ^ 64} h.high h.middle)) h.low)

-- ---- the upper two digits
abbrev pub upper : Wide → Wide
upper w = record { low = w.middle; middle = w.high; high = 0 }

pub split : (w : Wide) → value w ≡ w.low + base * value (upper w)
unfolding value
split w = simp (mul-zero, add-zero)

-- ---- a number tells its digits
-- the lowest, and what stands above it
told : (B : ℕ) {x y p q : ℕ} → x < B → y < B → x + B * p ≡ y + B * q → (x ≡ y) × (p ≡ q)
told B {x} {y} {p} {q} h k e =
    let some : 0 < B = omega arith in
    let rests = rw (add-mul-mod_self_left x B p, add-mul-mod_self_left y B q, mod-eq_of_lt h, mod-eq_of_lt k) at (ap (λ n. n % B) e) in
    let parts = rw (add-mul-div_left x p some, add-mul-div_left y q some, div-eq_of_lt h, div-eq_of_lt k) at (ap (λ n. n / B) e) in
    (rests, omega arith)

pub only : {v w : Wide} {n : ℕ} → Is v n → Is w n → v ≡ w
unfolding value base
only h k =
    let lowest = told (2 ^ 64) h.digits.low k.digits.low (h.same ∙ sym k.same) in
    let others = told (2 ^ 64) h.digits.middle k.digits.middle lowest.1 in
    λ i. record { low = lowest.0 i; middle = others.0 i; high = others.1 i }

-- ---- numbers compare as their digits do, the highest first
-- a digit is looked at where the numbers above it are equal
decides : (p q x y : ℕ) (r s : Ordering) → x < 2 ^ 64 → y < 2 ^ 64 → MatchOrdering r (p < q) (p ≡ q) (q < p) → MatchOrdering s (x < y) (x ≡ y) (y < x)
    → MatchOrdering (ordering_then r s) (x + base * p < y + base * q) (x + base * p ≡ y + base * q) (y + base * q < x + base * p)
unfolding base
decides p q x y Less s h k above here = omega arith
decides p q x y Equal Less h k above here = omega arith
decides p q x y Equal Equal h k above here = omega arith
decides p q x y Equal Greater h k above here = omega arith
decides p q x y Greater s h k above here = omega arith

pub in_order : {v w : Wide} → Digits v → Digits w
    → ordering_then (ordering_then (nat_cmp v.high w.high) (nat_cmp v.middle w.middle)) (nat_cmp v.low w.low) ≡ nat_cmp (value v) (value w)
unfolding value
in_order {v} {w} h k =
    nat_cmp_is (value v) (value w) _
    (decides _ _ v.low w.low _ _ h.low k.low (decides v.high w.high v.middle w.middle _ _ h.middle k.middle (ranks v.high w.high) (ranks v.middle w.middle)) (ranks v.low w.low))
