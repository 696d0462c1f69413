-- `text::refusal_text` meets its contract: the word, the number and the place are put one behind the other.
use borrow.Author.Rules.{rules}
use native.Mathlib.Omega.{arith}
use Prim.Native.Nat.{ℕ, ◌<◌, ◌^◌}
use mir.Syntax.{w64}
use mir.ValLaws.{to_z_pos}
use Rattle.rules.specs.SheetLine.{line_rest, refusal_text}
use Rattle.rules.proofs.Fitting.{put_nothing, put_fitting}
use Rattle.text.proofs.Placing.{then, finished}
use Rattle.text.proofs.refusal_text.Goals as goal

-- a number of 32 bits is one of 64 with a sign
few : {n : ℕ} → n < 2 ^ 32 → n < 2 ^ 63
few h = omega arith

pub returns : goal.returns
unfolding refusal_text line_rest
returns c =
    let number = rw (c.from.ensures, to_z_pos w64 _ (few c.number_of.type_inv), c.number_of.ensures) at c.put_spaced.ensures in
    let place = rw (c.from-2.ensures, to_z_pos w64 _ (few c.place_of.type_inv), c.place_of.ensures) at c.put_spaced-2.ensures in
    let line = then (then c.put_word.ensures number) (then place c.put_byte.ensures) in
    let room = c.if-out-lt-LINE_ROOM.false in
    put_fitting _ _ room (finished line c.new-line.ensures.unused c.new-line.ensures.as_it_was (search rules) (omega arith))

pub returns-then-out-lt-LINE_ROOM : goal.returns-then-out-lt-LINE_ROOM
returns-then-out-lt-LINE_ROOM c = put_nothing _ _ c.if-out-lt-LINE_ROOM.true
