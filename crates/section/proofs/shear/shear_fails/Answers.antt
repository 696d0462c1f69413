-- `section::shear::shear_fails` meets its contract: above 5 N/mm2 the rule's second test fails, and up to it that test passes and the other two are left.
use mathlib.Core.Path.{◌≡◌, refl}
use mathlib.Core.Bool.{Bool, true, false, and-true, and-false}
use Prim.Native.Nat.{ℕ, ◌*◌}
use native.Mathlib.Omega.{arith}
use borrow.Author.Tests.{leb-true, leb-false, le-leb, lt-leb}
use lib.Dec.{leb}
use Rattle.rules.specs.Forces.{squared}
use Rattle.rules.specs.ToeAndStem.{shear_fails}
use Rattle.section.proofs.shear.shear_fails.Goals as goal

-- a hundred times its numbers pass a test just where they do
hundredfold : (m n : ℕ) (passed : Bool) → leb m n ≡ passed → leb (100 * m) (100 * n) ≡ passed
hundredfold m n true e = le-leb (100 * m) (100 * n) (omega (arith, leb-true))
hundredfold m n false e = lt-leb (100 * m) (100 * n) (omega (arith, leb-false))

pub returns-then-d-v : goal.returns-then-d-v
unfolding shear_fails
returns-then-d-v c = let d = c in rw (← d.twice_depth-d.ensures.0, lt-leb (2 * d.args.v) (5000 * d.twice_depth-d.result) (omega arith), and-false)

pub returns : goal.returns
unfolding shear_fails
returns c =
    let d = c in
    let twice = 2 * d.args.v in
    let fcu = d.args.small.section.concrete in
    let D = d.twice_depth-d.result in
    let third : 64 * fcu * squared (1000 * D) ≡ 100 * (fcu * squared (800 * D)) = omega arith in
    rw (← d.twice_depth-d.ensures.0, le-leb twice (5000 * D) (omega arith), and-true, third, hundredfold (squared twice) (fcu * squared (800 * D)) _ refl)
