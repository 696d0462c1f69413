-- `wide::Wide::checked_minus` meets its contract: its digits and those of the other are the columns of a sum that is the number.
use Rattle.std.proofs.Common.{◌≡◌, ◌+◌, ◌*◌, sym, ◌∙◌, arith, rules}
use Rattle.std.specs.Int.{from_bool}
use Rattle.wide.specs.Value.{base, size, value, Digits}
use Rattle.wide.specs.declared.Wide.{Wide}
use Rattle.wide.proofs.Columns.{three, summed}
use Rattle.wide.proofs.Digits.{below}
use Rattle.wide.proofs.Wide.checked_minus.Goals.{After-borrowing_sub-high}
use Rattle.wide.proofs.Wide.checked_minus.Goals as goal

abbrev rest : After-borrowing_sub-high → Wide
rest c = record { low = c.borrowing_sub-low.result.0; middle = c.borrowing_sub-middle.result.0; high = c.borrowing_sub-high.result.0 }

sum : (c : After-borrowing_sub-high) → value c.args.self + from_bool c.borrowing_sub-high.result.1 * size ≡ value (rest c) + value c.args.other
unfolding base value
sum c =
    (three (record { sum = sym c.borrowing_sub-low.ensures }) (record { sum = sym c.borrowing_sub-middle.ensures }) (record { sum = sym c.borrowing_sub-high.ensures })).sum
    ∙ summed (rest c) c.args.other

pub returns-then-lent : goal.returns-then-lent
returns-then-lent c =
    let d = (goal.at.returns-then-lent c).After-borrowing_sub-high in
    let fit : Digits (rest d) = search rules in
    let all = rw c.if-lent.true at (sum d) in
    omega (arith, all, below fit)

pub returns-else-lent : goal.returns-else-lent
returns-else-lent c = let all = rw c.if-lent.false at (sum (goal.at.returns-else-lent c).After-borrowing_sub-high) in omega (arith, all)
