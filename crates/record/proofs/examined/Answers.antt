-- `record::examined` meets its contract. The wall is examined by itself, and then load after load.
use mathlib.Core.Path.{◌≡◌}
use native.Mathlib.Omega.{arith}
use Rattle.std.proofs.Common.{rules}
use Rattle.rules.specs.Answered.{◌or_else◌}
use Rattle.rules.specs.Beyond.{examined, first_unfit}
use Rattle.rules.proofs.Examined.{refused_load, examined_is}
use Rattle.record.proofs.examined.Goals.{After-wall_answer}
use Rattle.record.proofs.examined.Goals as goal

-- what is answered of the wall and its loads, by what is answered of the wall alone
is : (c : After-wall_answer) → let start = c.args in
    examined start.wall start.loads ≡ (c.wall_answer.result or_else refused_load (first_unfit start.wall 1 start.loads))
is c = rw c.wall_answer.ensures (examined_is _ _ (omega (arith, c.well_formed)))

pub returns-in_err-wall_answer : goal.returns-in_err-wall_answer
returns-in_err-wall_answer c = rw (is (goal.at.returns-in_err-wall_answer c).After-wall_answer, c.in_err-wall_answer.was) (search rules)

pub returns-in-Some : goal.returns-in-Some
returns-in-Some c = rw (is (goal.at.returns-in-Some c).After-wall_answer, c.in_ok-wall_answer.was, ← c.first_unfit.ensures, c.in-Some.is)

pub returns-in-None : goal.returns-in-None
returns-in-None c = rw (is (goal.at.returns-in-None c).After-wall_answer, c.in_ok-wall_answer.was, ← c.first_unfit.ensures, c.in-None.is)
