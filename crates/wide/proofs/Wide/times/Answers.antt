-- `wide::Wide::times` meets its contract: what lies above the size is left out.
use Rattle.std.proofs.Common.{mod-eq_of_lt, rules}
use Rattle.std.proofs.Math.Nat.{add-mul-mod_self_right}
use Rattle.wide.specs.Value.{Digits}
use Rattle.wide.proofs.Digits.{below}
use Rattle.wide.proofs.Wide.times.Goals as goal

pub returns : goal.returns
returns c =
    let p = c.product in
    let fit : Digits p.result.0 = search rules in
    record { same = rw (← p.ensures, add-mul-mod_self_right, mod-eq_of_lt (below fit)); digits = fit }
