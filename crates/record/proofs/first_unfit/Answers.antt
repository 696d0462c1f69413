-- `record::first_unfit` meets its contract: the number is one more than the place that is found.
use mathlib.Core.Path.{◌≡◌, sym, ap, ◌∙◌}
use native.Mathlib.Numerals.{add-one}
use Rattle.std.proofs.Common.{rules, tests}
use Rattle.std.proofs.lemmas.Iterator.{YieldsList-from_slice}
use Rattle.std.proofs.lemmas.Iterator.Adapters.{position_from-zero}
use Rattle.std.proofs.lemmas.Iterator.Search.{position_from_yields_List}
use Rattle.rules.specs.Beyond.{first_unfit}
use Rattle.record.proofs.Places.{number_at, unfit, unfit_at}
use Rattle.record.proofs.first_unfit.Goals.{After-position}
use Rattle.record.proofs.first_unfit.Goals as goal

at : (c : After-position) → first_unfit c.args.wall 1 c.args.loads ≡ number_at c.position.result
at c =
    let wall = c.args.wall in
    let loads = c.args.loads in
    unfit_at wall 0 loads ∙ sym (ap number_at
    (position_from_yields_List (unfit wall) _ _ c.position.result c.position.ensures.ran (YieldsList-from_slice loads cc) (λ x b q k. search (rules, tests))
    ∙ position_from-zero (unfit wall) loads))

pub returns-in_err-place : goal.returns-in_err-place
returns-in_err-place c = let h = at (goal.at.returns-in_err-place c).After-position in rw (h, c.in_err-place.was) c.from_residual.ensures

pub returns : goal.returns
returns c = let h = at (goal.at.returns c).After-position in rw (h, c.in_ok-place.was, add-one)
