-- `forces::forces_on` meets its contract. What is worked is a wall that fits with its loads.
use mathlib.Core.Path.{sym, ◌∙◌}
use borrow.Author.Rules.{rules}
use lib.Dec.{T}
use Rattle.rules.specs.Beyond.{fits, forces_of}
use Rattle.rules.proofs.Accepted.{wall_within}
use Rattle.rules.proofs.Examined.{fit}
use Rattle.forces.proofs.forces_on.Goals as goal

pub invariant_of-loaded : goal.invariant_of-loaded
invariant_of-loaded c =
    let fits : T (fits c.args.wall c.args.loads) = rw (sym c.examined.ensures ∙ c.in_ok-examined.was) tt in
    record { fits = fits; within = wall_within _ (fit _ _ fits).wall_fits }

pub returns-in_err-examined : goal.returns-in_err-examined
unfolding forces_of
returns-in_err-examined c = rw (← c.examined.ensures, c.in_err-examined.was) (search rules)

pub returns : goal.returns
unfolding forces_of
returns c = rw (← c.examined.ensures, c.in_ok-examined.was, c.worked.ensures)
