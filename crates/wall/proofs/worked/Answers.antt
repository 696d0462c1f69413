-- `wall::worked` meets its contract.
use Rattle.rules.proofs.Accepted.{wall_within}
use Rattle.wall.proofs.worked.Goals as goal

pub invariant_of-fitting : goal.invariant_of-fitting
invariant_of-fitting c = record { fits = c.requires.0; within = wall_within _ c.requires.0 }
