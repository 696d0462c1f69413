-- `keyed::digits_behind` meets its contract. The invariant: the bytes passed are digits, and the value is what the number has become with them.
use mathlib.Core.Path.{sym}
use mathlib.Core.Bool.{and-false}
use Prim.Native.Nat.{◌≤◌}
use lib.ListN.{length}
use Rattle.std.proofs.Common.{rules}
use borrow.Author.Tests.{le-leb}
use Rattle.keyed.specs.Keyed.{digits_behind}
use Rattle.keyed.proofs.Reading.{told, one_more, not_all, all_digits, all_made}
use Rattle.keyed.proofs.digits_behind.Goals as goal

pub returns-then-is_empty : goal.returns-then-is_empty
unfolding digits_behind
returns-then-is_empty c = search rules

pub returns-then-not-is_ascii_digit : goal.returns-then-not-is_ascii_digit
unfolding digits_behind
returns-then-not-is_ascii_digit c =
    let no = not_all c.loop-byte.invariant c.loop-byte-test.true (sym c.if-not-is_ascii_digit.ensures.value) in
    rw (no, and-false)

pub loop-byte-preserved : goal.loop-byte-preserved
unfolding told
loop-byte-preserved c =
    rw (c.min-value.ensures, c.from.ensures) (one_more c.loop-byte.invariant c.loop-byte-test.true (sym c.if-not-is_ascii_digit.ensures.value))

pub returns : goal.returns
unfolding digits_behind told
returns c =
    let inv = c.loop-byte.invariant in
    let some : 1 ≤ length c.args.word.now = search rules in
    rw (le-leb 1 _ some, all_digits inv c.loop-byte-test.false, all_made inv c.loop-byte-test.false)
