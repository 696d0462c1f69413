-- `soil::coefficients` meets its contract.
use mathlib.Core.Path.{sym, ◌∙◌}
use Rattle.rules.specs.Coefficients.{coefficients_of}
use Rattle.soil.proofs.NeverRise.{soil_found, soil_sine, soil_small}
use Rattle.soil.proofs.coefficients.Goals as goal

pub returns-then-not-is_soil : goal.returns-then-not-is_soil
unfolding coefficients_of
returns-then-not-is_soil c = rw (← c.if-not-is_soil.ensures)

pub returns-in_err-sine : goal.returns-in_err-sine
returns-in_err-sine c =
    let found = soil_found c.args.angle c.if-not-is_soil.ensures in
    absurd (cc (found, c.sine.ensures, c.in_err-sine.was))

pub rest_by-requires : goal.rest_by-requires
rest_by-requires c = rw c.from-sine.ensures (soil_small c.args.angle c.if-not-is_soil.ensures (sym c.sine.ensures ∙ c.in_ok-sine.was))

pub active_by-requires : goal.active_by-requires
active_by-requires c = rw c.from-sine.ensures (soil_small c.args.angle c.if-not-is_soil.ensures (sym c.sine.ensures ∙ c.in_ok-sine.was))

pub returns : goal.returns
unfolding coefficients_of
returns c =
    let is = soil_sine c.args.angle c.if-not-is_soil.ensures (sym c.sine.ensures ∙ c.in_ok-sine.was) in
    rw (← c.if-not-is_soil.ensures, c.rest_by.ensures, c.active_by.ensures, c.from-sine.ensures, is)
