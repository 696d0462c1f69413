-- `wide::Wide::divided` meets its contract. The invariant: what was taken off and what is left make up the number. What is left falls.
use Rattle.std.proofs.Common.{◌≡◌, ◌+◌, ◌*◌}
use Rattle.wide.specs.Value.{value}
use Rattle.wide.proofs.Wide.divided.Given as goal

abbrev pub invariant-loop-d : goal.invariant-loop-d
invariant-loop-d l = value l.initial.rest ≡ l.quotient * value l.d + value l.rest

abbrev pub decreases-loop-d : goal.decreases-loop-d
decreases-loop-d l = value l.rest
