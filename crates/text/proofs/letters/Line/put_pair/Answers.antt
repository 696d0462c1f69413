-- `text::letters::Line::put_pair` meets its contract.
use mathlib.Core.List.{[], ◌∷◌}
use Rattle.text.proofs.Drawings.{then_figures}
use Rattle.text.proofs.letters.Line.put_pair.Goals as goal

pub returns : goal.returns
returns c =
    let args = c.args in
    then_figures (args.x ∷ []) (args.y ∷ []) c.put_figure.ensures c.put_figure-2.ensures
