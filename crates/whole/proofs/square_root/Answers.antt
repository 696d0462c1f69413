-- `whole::square_root` meets its contract: moved up, n has a guess within 1; moved back, that is one of n, and so the root or one more.
-- Assumes nothing.
use mathlib.Core.Path.{◌≡◌}
use Prim.Native.Nat.{ℕ, ◌+◌, ◌-◌, ◌*◌, ◌/◌, ◌%◌, ◌^◌, ◌≤◌, ◌<◌}
use native.Mathlib.Nat.{mod-eq_of_lt, div-lt_iff_lt-mul, le-div_iff_mul-le}
use native.Mathlib.Omega.{arith}
use lib.Pow.{pow_pos, pow-add}
use Rattle.whole.proofs.Root.{Within, pairs, full, moved_back, not_zero, settled, settled_down}
use Rattle.whole.proofs.square_root.Goals as goal

-- n moved up, as the machine does it: no bit is lost
abbrev up : ℕ → ℕ
up n = n * 2 ^ (2 * pairs n) % 2 ^ 64

module _ (n : ℕ) (h : 0 < n) (k : n < 2 ^ 64) where
  up_is : up n ≡ n * (2 ^ pairs n * 2 ^ pairs n)
  up_is =
      let e : 2 * pairs n ≡ pairs n + pairs n = omega arith in
      rw (e, pow-add 2 (pairs n) (pairs n)) (mod-eq_of_lt (full n h k).1)

  -- what `near_root` gives, moved back
  back : (g : ℕ) → ((g - 1) * (g - 1) ≤ up n) × (up n < (g + 1) * (g + 1)) → Within 1 n (g / 2 ^ pairs n)
  back g near = let w = rw up_is at near in moved_back n (2 ^ pairs n) (pow_pos (pairs n)) (record { least = w.0; most = w.1 })

pub near_root-requires : goal.near_root-requires
near_root-requires c =
    let n = c.args.n in
    rw (up_is n (omega arith) (omega arith)) (full n (omega arith) (omega arith)).0

pub nonzero_div-n : goal.nonzero_div-n
nonzero_div-n c =
    let n = c.args.n in
    let some : 0 < n = omega arith in
    not_zero some (back n some (omega arith) c.near_root.result c.near_root.ensures)

-- n by the guess is below the guess just where the guess's square is too much
pub returns-then-n-guess : goal.returns-then-n-guess
returns-then-n-guess c =
    let n = c.args.n in
    let some : 0 < n = omega arith in
    let w = back n some (omega arith) c.near_root.result c.near_root.ensures in
    settled_down w ((div-lt_iff_lt-mul (not_zero some w)).0 (omega arith))

pub returns-else-n-guess : goal.returns-else-n-guess
returns-else-n-guess c =
    let n = c.args.n in
    let some : 0 < n = omega arith in
    let w = back n some (omega arith) c.near_root.result c.near_root.ensures in
    settled w ((le-div_iff_mul-le (not_zero some w)).0 (omega arith))
