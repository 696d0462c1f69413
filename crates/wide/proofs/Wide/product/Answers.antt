-- `wide::Wide::product` meets its contract: its three rows are the columns of the product.
use Rattle.std.proofs.Common.{◌∙◌}
use Rattle.wide.specs.Value.{base, value}
use Rattle.wide.proofs.Columns.{three, scaled}
use Rattle.wide.proofs.Wide.product.Goals as goal

pub returns : goal.returns
unfolding base value
returns c =
    let given = c.args in
    (three (record { sum = c.carrying_mul-low.ensures }) (record { sum = c.carrying_mul-middle.ensures }) (record { sum = c.carrying_mul-high.ensures })).sum
    ∙ scaled given.self given.f
