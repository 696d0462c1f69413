-- `sheet::figures::shape_of` meets its contract: a case for each kind of block, in which what is divided is read back as it is.
use mathlib.Core.Path.{◌≡◌}
use native.Mathlib.Omega.{arith}
use lib.IntN.{pos}
use mir.Syntax.{w64}
use mir.Val.{to_z, of_z}
use Rattle.whole.proofs.Integer.{back}
use Rattle.rules.specs.Bearing.{service_scale, reported}
use Rattle.rules.specs.Drawing.{shape_by, shape_of}
use Rattle.rules.proofs.Pressures.{reports}
use Rattle.sheet.proofs.figures.shape_of.Goals.{Start}
use Rattle.sheet.proofs.figures.shape_of.Goals as goal

-- what is read of the pressures is what is reported, and of the contact what it is
toe : (c : Start) → to_z w64 (of_z w64 (pos c.args.pressed.toe)) ≡ pos (reported service_scale c.args.pressed.block.toe)
toe c = rw (reports service_scale c.requires.1).0 (back (pos _) (omega (arith, c.requires.0.toe)))

heel : (c : Start) → to_z w64 (of_z w64 (pos c.args.pressed.heel)) ≡ pos (reported service_scale c.args.pressed.block.heel)
heel c = rw (reports service_scale c.requires.1).1 (back (pos _) (omega (arith, c.requires.0.heel)))

over : (c : Start) → let z = c.args.pressed.block.contact.over in to_z w64 (of_z w64 z) ≡ z
over c = back _ (omega (arith, c.requires.0.over))

under : (c : Start) → let z = c.args.pressed.block.contact.under in to_z w64 (of_z w64 z) ≡ z
under c = back _ (omega (arith, c.requires.0.under))

pub returns-in-Full : goal.returns-in-Full
unfolding shape_of shape_by
returns-in-Full c = let s = (goal.at.returns-in-Full c).Start in rw c.in-Full.is (cc (toe s, heel s))

pub returns-in-FromToe : goal.returns-in-FromToe
unfolding shape_of shape_by
returns-in-FromToe c = let s = (goal.at.returns-in-FromToe c).Start in rw c.in-FromToe.is (cc (toe s, over s, under s))

pub returns-in-FromHeel : goal.returns-in-FromHeel
unfolding shape_of shape_by
returns-in-FromHeel c = let s = (goal.at.returns-in-FromHeel c).Start in rw c.in-FromHeel.is (cc (heel s, over s, under s))

pub returns-in-NoBlock : goal.returns-in-NoBlock
unfolding shape_of shape_by
returns-in-NoBlock c = rw c.in-NoBlock.is

pub overflow_cast-pressed : goal.overflow_cast-pressed
overflow_cast-pressed c = let start = c in omega (arith, reports service_scale start.requires.1)

pub in_thousands-toe-requires : goal.in_thousands-toe-requires
in_thousands-toe-requires c = let start = c in rw (toe (goal.at.in_thousands-toe-requires c).Start) start.requires.0.toe

pub overflow_cast-pressed-2 : goal.overflow_cast-pressed-2
overflow_cast-pressed-2 c = let start = c in omega (arith, reports service_scale start.requires.1)

pub in_thousands-heel-requires : goal.in_thousands-heel-requires
in_thousands-heel-requires c = let start = c in rw (heel (goal.at.in_thousands-heel-requires c).Start) start.requires.0.heel
