-- `text::letters::Line::put_figure` meets its contract: the digits are put behind a space.
use mathlib.Core.List.{append-nil}
use Rattle.rules.specs.Beyond.{figure_text, figures_text}
use Rattle.text.proofs.Placing.{then}
use Rattle.text.proofs.letters.Line.put_figure.Goals as goal

pub returns : goal.returns
unfolding figure_text figures_text
returns c = rw append-nil (then c.put_byte.ensures (rw c.bits_of.ensures at c.put_hex.ensures))
