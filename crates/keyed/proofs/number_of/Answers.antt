-- `keyed::number_of` meets its contract.
use mathlib.Core.Path.{sym, ◌∙◌}
use borrow.Author.Tests.{lt-leb}
use Rattle.keyed.specs.Keyed.{is_number, asked_for}
use Rattle.keyed.proofs.Reading.{number_read, number_none}
use Rattle.keyed.proofs.number_of.Goals as goal

pub returns-then-word-gt-MOST_DIGITS : goal.returns-then-word-gt-MOST_DIGITS
unfolding asked_for is_number
returns-then-word-gt-MOST_DIGITS c = rw (lt-leb _ _ c.if-word-gt-MOST_DIGITS.true)

pub returns-in_err-digits_behind : goal.returns-in_err-digits_behind
returns-in_err-digits_behind c =
    c.from_residual.ensures ∙ sym (number_none _ (sym c.digits_behind.ensures ∙ c.in_err-digits_behind.was))

pub returns : goal.returns
returns c =
    c.ok.ensures.value
    ∙ number_read _ c.if-word-gt-MOST_DIGITS.false (sym c.digits_behind.ensures ∙ c.in_ok-digits_behind.was) c.try_from.result c.try_from.ensures
