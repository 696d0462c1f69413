-- `text::letters::Line::put_rest` meets its contract. The invariant: what is put and what is left make up the line's rest.
use mathlib.Core.Path.{◌≡◌}
use mathlib.Core.List.{List, [], ◌∷◌, ◌++◌, append_assoc}
use Prim.Native.Nat.{ℕ, ◌+◌, ◌*◌, ◌<◌}
use Prim.Native.Char.{code}
use native.Mathlib.Numerals.{add-one}
use native.Mathlib.Omega.{arith}
use borrow.Author.Rules.{rules}
use lib.IntN.{ℤ, pos}
use mir.Syntax.{w64}
use mir.Val.{SFits}
use mir.ValLaws.{to_z-of_z}
use lib.ListN.{length, get_or, drop_of_length-le}
use lib.Seq.{drop-cons}
use Rattle.rules.specs.SheetLine.{line_rest}
use Rattle.rules.specs.Beyond.{number_room}
use Rattle.text.specs.declared.letters.Line.{Line}
use Rattle.text.specs.Placed.{Adds, spaced_number}
use Rattle.text.proofs.Placing.{then, within}
use Rattle.text.proofs.letters.Line.put_rest.Invariants.{Passed}
use Rattle.text.proofs.letters.Line.put_rest.Goals as goal

-- what is left begins with the next number
one_more : {numbers : List ℤ} {k : ℕ} {before after last : Line} → Passed numbers k before after → k < length numbers
    → Adds number_room (spaced_number (get_or numbers k (pos 0))) after last → Passed numbers (k + 1) before last
unfolding line_rest
one_more {numbers} {k} so_far there put =
    record {
      text = so_far.text ++ spaced_number (get_or numbers k (pos 0));
      put = let both = then so_far.put put in within both (omega (arith, both.short));
      joined = rw (append_assoc, add-one) (rw (drop-cons numbers k (pos 0) there) at so_far.joined);
    }

-- and at last is the end of the line
all_put : {numbers : List ℤ} {k : ℕ} {before after last : Line} → Passed numbers k before after → k ≡ length numbers
    → Adds 1 (code "\n" ∷ []) after last → Adds (number_room * length numbers + 1) (line_rest numbers) before last
unfolding line_rest
all_put {numbers} {k} so_far all put = rw (← all, ← so_far.joined, drop_of_length-le numbers {i = k} (omega (arith, all))) (then so_far.put put)

pub loop-number-preserved : goal.loop-number-preserved
loop-number-preserved c =
    let number = get_or c.args.rest.now c.loop-number.number-index (pos 0) in
    let fits : SFits w64 number = search rules in
    one_more c.loop-number.invariant c.loop-number-test.true (rw (to_z-of_z w64 number fits) at c.put_spaced.ensures)

pub returns : goal.returns
returns c = all_put c.loop-number.invariant (omega arith) c.put_byte.ensures
