-- `text::line_text` meets its contract: a line's three parts are put one behind the other.
use borrow.Author.Rules.{rules}
use native.Mathlib.Omega.{arith}
use lib.IntN.{pos}
use lib.ListN.{length, get_or, drop, length-drop}
use lib.Seq.{take_all}
use mir.Syntax.{w64}
use mir.Val.{SFits}
use mir.ValLaws.{to_z-of_z}
use Rattle.std.proofs.Common.{◌≡◌}
use Rattle.rules.specs.SheetLine.{line_numbers, line_text}
use Rattle.rules.proofs.Fitting.{put_nothing, put_fitting}
use Rattle.text.proofs.Placing.{then, finished}
use Rattle.text.proofs.line_text.Goals as goal

pub returns : goal.returns
unfolding line_text
returns c =
    let numbers = c.args.numbers in
    let size : length numbers ≡ line_numbers = search rules in
    let first : SFits w64 (get_or numbers 0 (pos 0)) = search rules in
    let second : SFits w64 (get_or numbers 1 (pos 0)) = search rules in
    let number = rw (to_z-of_z w64 _ first) at c.put_signed.ensures in
    let failures = rw (to_z-of_z w64 _ second) at c.put_failures.ensures in
    let rest = rw (take_all 17 (drop 2 numbers) (omega (arith, length-drop 2 numbers))) at c.put_rest.ensures in
    let line = then (then number failures) rest in
    let room = c.if-out-lt-LINE_ROOM.false in
    put_fitting _ _ room (finished line c.new-line.ensures.unused c.new-line.ensures.as_it_was (search rules) (omega (arith, length-drop 2 numbers)))

pub returns-then-out-lt-LINE_ROOM : goal.returns-then-out-lt-LINE_ROOM
returns-then-out-lt-LINE_ROOM c = put_nothing _ _ c.if-out-lt-LINE_ROOM.true
