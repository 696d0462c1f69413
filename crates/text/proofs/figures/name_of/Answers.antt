-- `text::figures::name_of` meets its contract.
use Rattle.std.proofs.Common.{arith, refl}
use Rattle.rules.specs.Beyond.{shape_name}
use Rattle.text.proofs.figures.name_of.Goals as goal

pub returns-in-Whole : goal.returns-in-Whole
unfolding shape_name
returns-in-Whole c = rw c.in-Whole.is (refl, omega arith)

pub returns-in-ToeTriangle : goal.returns-in-ToeTriangle
unfolding shape_name
returns-in-ToeTriangle c = rw c.in-ToeTriangle.is (refl, omega arith)

pub returns-in-HeelTriangle : goal.returns-in-HeelTriangle
unfolding shape_name
returns-in-HeelTriangle c = rw c.in-HeelTriangle.is (refl, omega arith)

pub returns-in-Nothing : goal.returns-in-Nothing
unfolding shape_name
returns-in-Nothing c = rw c.in-Nothing.is (refl, omega arith)
