-- `bearing::blocks` meets its contract: the totals that are answered are those of a wall that fits, so they can be worked into blocks.
use mathlib.Core.Path.{◌≡◌, sym, ◌∙◌}
use mathlib.Core.List.{List}
use borrow.Author.Rules.{rules}
use lib.Dec.{T}
use Rattle.std.specs.Prelude.{Result, Ok}
use Rattle.rules.specs.declared.Forces.{Forces}
use Rattle.rules.specs.declared.Refusal.{Refusal}
use Rattle.rules.specs.JobFile.{Wall, Load}
use Rattle.rules.specs.Bearing.{block_under, service_block, factored_block}
use Rattle.rules.specs.Beyond.{examined, fits, worked_forces, worked_bearing, forces_of, bearing_of}
use Rattle.rules.proofs.Replies.{gives_worked, worked_given, refusal_given}
use Rattle.bearing.proofs.Workable.{service_workable, factored_workable}
use Rattle.bearing.proofs.blocks.Goals as goal

-- forces that are given are those of a wall that fits with its loads
given : (wall : Wall) (loads : List Load) {r : Result Forces Refusal} {f : Forces} → r ≡ forces_of wall loads → r ≡ Ok f
    → T (fits wall loads) × (f ≡ worked_forces wall loads)
unfolding forces_of
given wall loads e was = worked_given (examined wall loads) (worked_forces wall loads) (sym was ∙ e)

pub returns-in_err-forces : goal.returns-in_err-forces
unfolding forces_of bearing_of
returns-in_err-forces c =
    let a = c.args in
    rw (refusal_given (examined a.wall a.loads) (worked_forces a.wall a.loads) (sym c.in_err-forces.was ∙ c.forces_on.ensures)) (search rules)

pub pressed_by-requires : goal.pressed_by-requires
unfolding worked_forces
pressed_by-requires c =
    let own = given _ _ c.forces_on.ensures c.in_ok-forces.was in
    rw (c.base_length-length.ensures, own.1) (service_workable _ _ own.0)

pub pressed_by-requires-2 : goal.pressed_by-requires-2
unfolding worked_forces
pressed_by-requires-2 c =
    let own = given _ _ c.forces_on.ensures c.in_ok-forces.was in
    rw (c.base_length-length.ensures, own.1) (factored_workable _ _ own.0)

pub returns : goal.returns
unfolding block_under service_block factored_block worked_forces worked_bearing bearing_of
returns c =
    let own = given _ _ c.forces_on.ensures c.in_ok-forces.was in
    rw (c.pressed_by-2.ensures, c.pressed_by.ensures, c.base_length-length.ensures, own.1) (sym (gives_worked _ _ own.0))
