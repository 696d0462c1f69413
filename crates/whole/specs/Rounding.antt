-- Division of whole numbers, rounded in three ways. A division by 0 gives 0.
use Rattle.std.specs.Prelude.{ℕ, ◌+◌, ◌-◌, ◌*◌, ◌/◌}

-- the least whole number that is enough
unfoldable pub rounded_up : ℕ → ℕ → ℕ
rounded_up a b = (a + (b - 1)) / b

-- the greatest whole number that is not too much
unfoldable pub rounded_down : ℕ → ℕ → ℕ
rounded_down a b = a / b

-- the nearest whole number, the upper one of two that are equally near
unfoldable pub rounded_nearest : ℕ → ℕ → ℕ
rounded_nearest a b = (2 * a + b) / (2 * b)
