-- `wall::line` meets its contract: what is answered of the blocks is answered of the line.
use mathlib.Core.Path.{◌≡◌}
use native.Mathlib.Omega.{arith}
use borrow.Author.Rules.{rules}
use Rattle.rules.specs.SheetLine.{numbers_by, line}
use Rattle.rules.specs.Beyond.{line_of}
use Rattle.rules.proofs.Lines.{line_small}
use Rattle.wall.proofs.Answers.{bears, fills, worked_is, fitted, line_worked, examined_refused}
use Rattle.wall.proofs.line.Goals.{After-worked}
use Rattle.wall.proofs.line.Goals as goal

pub returns-in_err-borne : goal.returns-in_err-borne
unfolding line_of
returns-in_err-borne c = rw (examined_refused _ _ c.in_err-borne.ensures) (search rules)

pub worked-requires : goal.worked-requires
worked-requires c =
    let f = fitted _ _ c.in_ok-borne.ensures in
    (f.0.wall_fits, rw f.1 (bears _ _ f.0), rw f.1 (fills _ _))

-- the numbers of the wall that is worked are its line's
numbers : (c : After-worked) → numbers_by c.args.number c.args.wall c.worked.result ≡ line c.args.number c.args.wall c.args.loads
unfolding line
numbers c = rw (c.worked.ensures, (fitted _ _ c.in_ok-borne.ensures).1, worked_is _ _)

pub numbers_of-requires : goal.numbers_of-requires
numbers_of-requires c =
    rw (numbers (goal.at.numbers_of-requires c).After-worked) (line_small _ (omega (arith, c.ranges.number)) (fitted _ _ c.in_ok-borne.ensures).0)

pub returns : goal.returns
returns c =
    rw (c.numbers_of.ensures, numbers (goal.at.returns c).After-worked) (line_worked _ _ (fitted _ _ c.in_ok-borne.ensures).0 _)
