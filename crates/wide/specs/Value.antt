-- What a wide number is.
-- `value`, `base` and `size` stay shut until a proof opens them: omega takes no number of more than 38 digits.
use Rattle.std.specs.Prelude.{◌≡◌, ℕ, ◌+◌, ◌*◌, ◌^◌, ◌<◌}
use Rattle.wide.specs.declared.Wide.{Wide}

unfoldable pub base : ℕ
base = 2 ^ 64

-- what every wide number is below
unfoldable pub size : ℕ
size = 2 ^ 192

-- the number that three digits make
unfoldable pub value : Wide → ℕ
value w = w.low + base * (w.middle + base * w.high)

-- each digit is below the base
pub record Digits (w : Wide) : Type 0 where
  pub low : w.low < 2 ^ 64
  pub middle : w.middle < 2 ^ 64
  pub high : w.high < 2 ^ 64

-- w is n, and no other wide number is
pub record Is (w : Wide) (n : ℕ) : Type 0 where
  pub same : value w ≡ n
  pub digits : Digits w
