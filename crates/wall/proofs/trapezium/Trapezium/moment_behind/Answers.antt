-- `wall::trapezium::Trapezium::moment_behind` meets its contract: each product fits, and two divisions that are rounded down are one.
use mathlib.Core.Path.{◌∙◌}
use Prim.Native.Nat.{◌+◌, ◌-◌, ◌*◌, ◌≤◌}
use native.Mathlib.Nat.{mul-le-mul, mul-pos}
use native.Mathlib.Omega.{arith}
use Rattle.whole.proofs.Rounded.{down_twice}
use Rattle.rules.proofs.Accepted.{longest}
use Rattle.wall.proofs.UnderHeel.{line_most, share_most}
use Rattle.wall.proofs.trapezium.Trapezium.moment_behind.Goals as goal

pub share-requires : goal.share-requires
share-requires c =
    let t = c.args.self in
    let arm = c.args.arm in
    let some = t.ends.some in
    let base = mul-le-mul t.ends.long t.ends.long in
    let near : arm * arm ≤ 4 * (t.l * t.l) = omega (arith, mul-le-mul c.requires c.requires) in
    let short : arm * arm ≤ 4 * (longest * longest) = omega arith in
    let sum = line_most t.ends arm (6 * t.l - arm) (omega arith) (omega arith) in (
      mul-pos some some,
      omega (arith, sum, base, share_most (t.toe * arm + t.heel * (6 * t.l - arm)) (arm * arm) (t.l * t.l) near),
      omega (arith, mul-le-mul base short),
    )

pub returns : goal.returns
returns c = c.rounded_down.ensures ∙ rw c.share.ensures (down_twice _ _ _)
