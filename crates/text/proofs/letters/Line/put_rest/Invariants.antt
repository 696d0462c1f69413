-- `text::letters::Line::put_rest` meets its contract. The invariant: what is put and what is left make up the line's rest.
use mathlib.Core.Path.{◌≡◌}
use mathlib.Core.List.{List, ◌++◌}
use Prim.Native.Nat.{ℕ, ◌*◌}
use lib.IntN.{ℤ}
use lib.ListN.{drop}
use Rattle.rules.specs.SheetLine.{line_rest}
use Rattle.rules.specs.Beyond.{number_room}
use Rattle.text.specs.declared.letters.Line.{Line}
use Rattle.text.specs.Placed.{Adds}
use Rattle.text.proofs.letters.Line.put_rest.Given as goal

-- the numbers before an index are put
pub record Passed (numbers : List ℤ) (k : ℕ) (before after : Line) : Type 0 where
  pub text : List ℕ
  pub put : Adds (number_room * k) text before after
  pub joined : text ++ line_rest (drop k numbers) ≡ line_rest numbers

abbrev pub invariant-loop-number : goal.invariant-loop-number
invariant-loop-number l = Passed l.rest l.number-index l.initial.self l.self
