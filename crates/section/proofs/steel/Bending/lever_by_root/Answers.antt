-- `section::steel::Bending::lever_by_root` meets its contract: its root is that of D^2 - 4q, and half of D and the root is the greatest Z that bears M.
use mathlib.Core.Path.{sym}
use Prim.Native.Nat.{◌*◌, ◌/◌, ◌≤◌}
use native.Mathlib.Nat.{mul-le-mul}
use native.Mathlib.Omega.{arith}
use Rattle.whole.specs.Rounding.{rounded_down}
use Rattle.rules.proofs.ByRoot.{impossible, within, root_most, upper}
use Rattle.section.proofs.steel.Bending.lever_by_root.Goals as goal

pub returns-then-self-d : goal.returns-then-self-d
returns-then-self-d c = (sym (impossible _ _ _ (omega arith)), omega arith)

pub overflow_mul-least_product : goal.overflow_mul-least_product
overflow_mul-least_product c =
    let a = c.args in
    let h = a.self.within.depth in
    omega (arith, within a.m a.self.fcu a.self.d (omega arith), mul-le-mul h h)

pub overflow_sub-d : goal.overflow_sub-d
overflow_sub-d c = let a = c.args in omega (arith, within a.m a.self.fcu a.self.d (omega arith))

pub returns : goal.returns
unfolding rounded_down
returns c =
    let a = c.args in
    let h : a.m ≤ 225 * a.self.fcu * (a.self.d * a.self.d / 4) = omega arith in
    let is = rw c.least_product.ensures at c.square_root-root.ensures in
    omega (arith, upper a.m a.self.fcu a.self.d h _ is, root_most a.m a.self.fcu a.self.d h _ is)
