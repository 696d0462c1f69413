-- `office::office_drawing` meets its contract.
use Rattle.office.proofs.Lent.{given, given_few, shapes_few, no_shape}
use Rattle.office.proofs.office_drawing.Goals as goal

pub packed-requires : goal.packed-requires
packed-requires c = given_few _ _ c.put_drawing.ensures.answered (shapes_few _ _ _)

pub returns : goal.returns
returns c =
    let drawing = c.put_drawing.ensures in
    record { answered = given _ _ drawing.answered (no_shape _ _ _) c.packed.ensures; holds = drawing.holds }
