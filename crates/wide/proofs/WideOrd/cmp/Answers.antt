-- The order of wide numbers meets its contract: the digits, from the highest on, compare as the numbers do.
use Rattle.std.proofs.Common.{◌^◌, ◌<◌, ◌∙◌, rules}
use Rattle.wide.proofs.Digits.{in_order}
use Rattle.wide.proofs.WideOrd.cmp.Goals as goal

pub returns : goal.returns
returns c =
    let given = c.args in
    let one = c.digits.result in
    let other = c.digits-2.result in
    let one_fits : (one.0 < 2 ^ 64) × (one.1 < 2 ^ 64) × (one.2 < 2 ^ 64) = search rules in
    let other_fits : (other.0 < 2 ^ 64) × (other.1 < 2 ^ 64) × (other.2 < 2 ^ 64) = search rules in
    let h = rw c.digits.ensures at one_fits in
    let k = rw c.digits-2.ensures at other_fits in
    rw (c.digits.ensures, c.digits-2.ensures) at c.cmp.ensures
    ∙ in_order {v = given.self.now} {w = given.other.now} (record { high = h.0; middle = h.1; low = h.2 }) (record { high = k.0; middle = k.1; low = k.2 })
