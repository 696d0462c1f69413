-- `text::letters::Line::put_decimal` meets its contract. The measure is the number itself.
use mathlib.Core.Path.{◌≡◌}
use mathlib.Core.List.{List, [], ◌∷◌, ◌++◌}
use Prim.Native.Nat.{ℕ, ◌/◌, ◌%◌, ◌^◌, ◌≤◌, ◌<◌}
use native.Mathlib.Omega.{arith}
use lib.ListN.{length}
use Rattle.rules.specs.SheetLine.{digit, decimal}
use Rattle.text.specs.declared.letters.Line.{Line}
use Rattle.text.specs.Placed.{Adds}
use Rattle.text.proofs.Decimals.{one_digit, last_digit, decimal_most}
use Rattle.text.proofs.Placing.{nothing, then, within}
use Rattle.text.proofs.letters.Line.+put_decimal.Goals.{then-n-ge10, else-n-ge10, After-put_byte-arg-1}
use Rattle.text.proofs.letters.Line.+put_decimal.Goals as goal

-- its tenth has room for one more
few : (n : ℕ) → n < 10 ^ 19 → length (decimal (n / 10)) ≤ 18
few n h = decimal_most 17 (n / 10) (omega arith)

-- all digits but the last are put
record Front (n : ℕ) (before after : Line) : Type 0 where
  pub digits : List ℕ
  pub put : Adds 18 digits before after
  pub all : decimal n ≡ digits ++ digit (n % 10) ∷ []

front : (t : ℕ) (c : After-put_byte-arg-1 t) → Front c.args.n c.args.self.now c.if-n-ge10.self
front t c =
    elim c.if-n-ge10.branch [
      | then-n-ge10 w ↦ rw w.self-is (record { digits = decimal (c.args.n / 10); put = within w.put_decimal.ensures (few c.args.n (omega arith)); all = last_digit c.args.n w.if-n-ge10.true })
      | else-n-ge10 w ↦ rw w.self-is (record { digits = []; put = nothing; all = one_digit c.args.n w.if-n-ge10.false })
    ]

pub put_byte-requires : goal.put_byte-requires
put_byte-requires t c = omega (arith, (front t c).put)

pub returns : goal.returns
returns t c = let its = front t (goal.at.returns t c).After-put_byte-arg-1 in rw its.all (then its.put c.put_byte.ensures)
