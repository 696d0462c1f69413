-- `job::bytes::read_u32s` meets its contract.
use mathlib.Core.Path.{◌≡◌}
use Prim.Native.Nat.{◌+◌, ◌-◌, ◌*◌}
use native.Mathlib.Omega.{arith}
use lib.ListN.{length}
use Rattle.job.proofs.Numbers.{same_inside}
use Rattle.job.proofs.bytes.read_u32s.Goals as goal

pub returns-in-Some : goal.returns-in-Some
returns-in-Some c =
    let file = c.args.file.now in
    let at = c.args.at in
    let n = length c.args.numbers.now in
    let count : at + 4 * n - at ≡ 4 * n = omega arith in
    rw (c.read_inside.ensures, c.in-Some.ensures.lookup.0.2, count) (same_inside file at n)
