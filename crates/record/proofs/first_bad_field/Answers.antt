-- `record::first_bad_field` meets its contract: the number is one more than the place that is found. The table that is gone through is that of the
-- rules: the two are compared entry by entry.
use mathlib.Core.Path.{◌≡◌, sym, ap, ◌∙◌}
use native.Mathlib.Numerals.{add-one}
use native.Mathlib.Omega.{arith}
use Rattle.std.proofs.Common.{rules, tests}
use Rattle.std.proofs.lemmas.Iterator.{YieldsList-from_slice, YieldsList-from_zip}
use Rattle.std.proofs.lemmas.Iterator.Adapters.{position_from-zero}
use Rattle.std.proofs.lemmas.Iterator.Search.{position_from_yields_List}
use Rattle.std.specs.List.{zip}
use Rattle.rules.specs.JobFile.{ranges, first_bad_field}
use Rattle.record.proofs.Places.{number_at, outside, outside_at}
use Rattle.record.proofs.first_bad_field.Goals.{After-position}
use Rattle.record.proofs.first_bad_field.Goals as goal

at : (c : After-position) → first_bad_field c.args.wall ≡ number_at c.position.result
unfolding first_bad_field
at c =
    let wall = c.args.wall in
    outside_at wall 0 ranges (omega arith) ∙ sym (ap number_at
    (position_from_yields_List (outside wall) c.position.new.self _ c.position.result c.position.ensures.ran
    (YieldsList-from_zip (YieldsList-from_slice wall cc) (YieldsList-from_slice ranges cc)) (λ x b q k. search (rules, tests))
    ∙ position_from-zero (outside wall) (zip wall ranges)))

pub returns-in_err-place : goal.returns-in_err-place
returns-in_err-place c = let h = at (goal.at.returns-in_err-place c).After-position in rw (h, c.in_err-place.was) c.from_residual.ensures

pub returns : goal.returns
returns c = let h = at (goal.at.returns c).After-position in rw (h, c.in_ok-place.was, add-one)
