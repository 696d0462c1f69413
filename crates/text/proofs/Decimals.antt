-- A number in decimal, digit by digit, and how many there are at most.
use mathlib.Core.Path.{◌≡◌, sym, ◌∙◌}
use mathlib.Core.List.{[], ◌∷◌, ◌++◌}
use Prim.Native.Nat.{ℕ, zero, suc, ◌/◌, ◌%◌, ◌^◌, ◌≤◌, ◌<◌}
use native.Mathlib.Omega.{arith}
use borrow.Author.Tests.{lt-ltb, le-ltb}
use lib.Dec.{ltb, ltb→lt, nltb→le}
use lib.ListN.{length, length-append}
use Rattle.whole.proofs.Lists.{case}
use Rattle.rules.specs.SheetLine.{digit, digits, decimal}

-- a number below ten is a digit, and any other its tenth and then the last digit
module _ (most n : ℕ) where
  one : n < 10 → digits (suc most) n ≡ digit n ∷ []
  unfolding digits
  one h = rw (lt-ltb n 10 h, digits)

  more : 10 ≤ n → digits (suc most) n ≡ digits most (n / 10) ++ digit (n % 10) ∷ []
  unfolding digits
  more h = rw (le-ltb n 10 h, digits)

either : {P : Type 0} (n : ℕ) → (n < 10 → P) → (10 ≤ n → P) → P
either {P} n small great = case {A = ℕ} (ltb n 10) 0 0 (λ _. P) (λ t. small (ltb→lt n 10 t)) (λ t. great (nltb→le n 10 t))

-- it has no more digits than the number is great, so that more room for them changes nothing
enough : (m k n : ℕ) → n < m → n < k → digits m n ≡ digits k n
enough zero k n h i = absurd (omega arith)
enough (suc m) zero n h i = absurd (omega arith)
enough (suc m) (suc k) n h i =
    either n (λ small. one m n small ∙ sym (one k n small))
    (λ great. more m n great ∙ rw (enough m k (n / 10) (omega arith) (omega arith)) (sym (more k n great)))

pub one_digit : (n : ℕ) → n < 10 → decimal n ≡ digit (n % 10) ∷ []
unfolding decimal
one_digit n h = let same : n % 10 ≡ n = omega arith in rw same (one n n h)

pub last_digit : (n : ℕ) → 10 ≤ n → decimal n ≡ decimal (n / 10) ++ digit (n % 10) ∷ []
unfolding decimal
last_digit n h = more n n h ∙ rw (enough n (suc (n / 10)) (n / 10) (omega arith) (omega arith))

-- below a power of ten it has so many at most
pub decimal_most : (most n : ℕ) → n < 10 ^ suc most → length (decimal n) ≤ suc most
decimal_most zero n h = rw (one_digit n h) (omega arith)
decimal_most (suc most) n h =
    either n (λ small. rw (one_digit n small) (omega arith))
    (λ great. rw (last_digit n great, length-append) (omega (arith, decimal_most most (n / 10) (omega arith))))
