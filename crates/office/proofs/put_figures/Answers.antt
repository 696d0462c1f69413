-- `office::put_figures` meets its contract: three figures, and the shape's behind those.
use mathlib.Core.Path.{refl}
use mathlib.Core.List.{[], ◌∷◌}
use Rattle.rules.specs.Beyond.{Put, figures, onto}
use Rattle.rules.proofs.Putting.{then_text}
use Rattle.office.proofs.put_figures.Goals as goal

pub returns : goal.returns
unfolding figures onto
returns c =
    let d = c.args.drawn.drawing in
    let three = d.R ∷ d.H ∷ d.distance ∷ [] in
    let first : Put three c.args.out.now 3 (onto three c.args.out.now) = record { counted = refl; holds = refl } in
    let same = c.copy_from_slice.ensures.after in
    rw same (then_text first (record { counted = refl; holds = rw same at c.put_shape.ensures })).holds
