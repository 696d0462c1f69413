-- `text::letters::Line::put_drawn` meets its contract: the name, the figures behind it, and the end of the line.
use mathlib.Core.List.{[], ◌∷◌}
use native.Mathlib.Omega.{arith}
use Rattle.rules.specs.Beyond.{shape_figures, figures, drawn_text}
use Rattle.text.proofs.Drawings.{then_figures}
use Rattle.text.proofs.Placing.{then, within}
use Rattle.text.proofs.letters.Line.put_drawn.Goals as goal

pub returns : goal.returns
unfolding drawn_text figures
returns c =
    let drawn = c.args.drawn in
    let three = then_figures (drawn.drawing.R ∷ drawn.drawing.H ∷ []) (drawn.drawing.distance ∷ []) c.put_pair.ensures c.put_figure.ensures in
    let all = then_figures _ (shape_figures drawn.shape) three c.put_shape_figures.ensures in
    let line = then (then (rw c.name_of.ensures.0 at c.put_word.ensures) all) c.put_byte.ensures in
    within line (omega (arith, line.short))
