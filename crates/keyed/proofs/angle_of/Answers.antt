-- `keyed::angle_of` meets its contract.
use mathlib.Core.Path.{◌≡◌, ◌∙◌}
use Prim.Native.Nat.{◌-◌, ◌≤◌, ◌<◌}
use native.Mathlib.Omega.{arith}
use Rattle.std.proofs.Common.{rules}
use borrow.Author.Tests.{lt-leb}
use lib.ListN.{length, take}
use Rattle.keyed.specs.Keyed.{has_point, angle_of}
use Rattle.keyed.proofs.Reading.{without_degrees, without_point, with_point}
use Rattle.keyed.proofs.angle_of.Goals.{then-is_empty-via-then-is_empty, then-is_empty-via-else-is_empty+then-point-ne46}
use Rattle.keyed.proofs.angle_of.Goals as goal

pub returns-in_default : goal.returns-in_default
unfolding angle_of has_point
returns-in_default c = let none : length c.args.word.now < 3 = omega arith in rw (lt-leb 3 _ none) c.angle_by.ensures

pub returns-then-is_empty : goal.returns-then-is_empty
returns-then-is_empty c =
    c.angle_by-then-is_empty.ensures
    ∙ elim c.then-is_empty.branch [
      | then-is_empty-via-then-is_empty w ↦
          let none : length (take (length c.args.word.now - 2) c.args.word.now) ≡ 0 = search rules in without_degrees _ none
      | then-is_empty-via-else-is_empty+then-point-ne46 w ↦ without_point _ w.if-point-ne46.true
    ]

pub returns : goal.returns
returns c =
    let some : 1 ≤ length (take (length c.args.word.now - 2) c.args.word.now) = search rules in
    c.angle_by-2.ensures ∙ with_point _ some c.if-point-ne46.false
