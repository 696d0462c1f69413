-- For a caller: a law for each public function, by which a wide number is the one that was meant. `first` is where a caller starts, `exactly` has a line for
-- each product, and `up_exact` and `down_exact` lead back to 64 bits. All that is to be shown are numbers of bits, and `value` and `size` stay shut.
use Rattle.std.proofs.Common.{◌≡◌, ℕ, ◌+◌, ◌-◌, ◌*◌, ◌%◌, ◌^◌, ◌<◌, ◌≤◌, min, leb, Ordering, lt_of_lt_of_le, lt_of_le_of_lt, le_of_lt, mod-eq_of_lt, mul-le-mul_left, arith, pow_mono, shl_lt}
use Rattle.std.proofs.lemmas.Bool.Decides.{nat_tests}
use Rattle.std.specs.Ordering.{nat_cmp, on, as_partial_cmp, partial_le}
use Rattle.whole.specs.Rounding.{rounded_up, rounded_down}
use Rattle.wide.specs.Value.{size, value, Is}
use Rattle.wide.specs.declared.Wide.{Wide}

-- w is x, which has at most k bits
pub record Bits (w : Wide) (k x : ℕ) : Type 0 where
  pub same : value w ≡ x
  pub few : x < 2 ^ k

-- `Wide::from`
pub first : {w : Wide} {x : ℕ} (k : ℕ) → Is w x → x < 2 ^ k → Bits w k x
first k e h = record { same = e.same; few = h }

-- `times`: a product is kept whole where its factors have at most 192 bits together
pub exactly : {a r : Wide} {k x f : ℕ} (m : ℕ) → Bits a k x → f < 2 ^ m → k + m ≤ 192 → Is r (value a * f % size) → Bits r (k + m) (x * f)
unfolding size
exactly {k = k} {x} {f} m a h within e =
    let few : x * f < 2 ^ (k + m) = lt_of_le_of_lt (mul-le-mul_left x (le_of_lt h)) (shl_lt k m a.few) in
    record { same = rw (a.same, mod-eq_of_lt (lt_of_lt_of_le few (pow_mono within))) at e.same; few = few }

-- `product_of`: two numbers of 64 bits
pub both : {w : Wide} {x y : ℕ} → x < 2 ^ 64 → y < 2 ^ 64 → Is w (x * y) → Bits w 128 (x * y)
both {x = x} h k e = record { same = e.same; few = lt_of_le_of_lt (mul-le-mul_left x (le_of_lt k)) (shl_lt 64 64 h) }

-- `<=`: is the one no greater than the other?
pub at_most : (a b : Wide) → partial_le (as_partial_cmp (on value nat_cmp)) a b ≡ leb (value a) (value b)
at_most a b = grind (arith, nat_tests)

module _ {a b : Wide} {k m x y : ℕ} (ha : Bits a k x) (hb : Bits b m y) where
  -- `cmp`
  pub compared : {o : Ordering} → o ≡ nat_cmp (value a) (value b) → o ≡ nat_cmp x y
  compared e = rw (ha.same, hb.same) at e

  -- `minus`
  pub less : {r : Wide} → Is r (value a - value b) → Bits r k (x - y)
  less e = record { same = rw (ha.same, hb.same) at e.same; few = omega (arith, ha.few) }

  -- `quotient_down` and `quotient_up`, where the quotient is within 64 bits
  pub down_exact : {r : ℕ} → rounded_down x y < 2 ^ 64 → r ≡ min (rounded_down (value a) (value b)) (2 ^ 64 - 1) → r ≡ rounded_down x y
  down_exact h e = omega (arith, rw (ha.same, hb.same) at e)

  pub up_exact : {r : ℕ} → rounded_up x y < 2 ^ 64 → r ≡ min (rounded_up (value a) (value b)) (2 ^ 64 - 1) → r ≡ rounded_up x y
  up_exact h e = omega (arith, rw (ha.same, hb.same) at e)
