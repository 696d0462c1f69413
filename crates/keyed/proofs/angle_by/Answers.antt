-- `keyed::angle_by` meets its contract.
use mathlib.Core.Path.{sym, ◌∙◌}
use Rattle.keyed.proofs.Reading.{told_small, value_read, angle_read, no_degrees, no_tenth}
use Rattle.keyed.proofs.angle_by.Goals as goal

pub returns-in_err-digits_behind : goal.returns-in_err-digits_behind
returns-in_err-digits_behind c =
    c.from_residual.ensures ∙ sym (no_degrees _ _ (sym c.digits_behind.ensures ∙ c.in_err-digits_behind.was))

pub digits_behind-requires-2 : goal.digits_behind-requires-2
digits_behind-requires-2 c =
    rw (sym (value_read 0 c.args.degrees.now (sym c.digits_behind.ensures ∙ c.in_ok-digits_behind.was)).1) (told_small _)

pub returns-in_err-tenths : goal.returns-in_err-tenths
returns-in_err-tenths c =
    c.from_residual-in_err-tenths.ensures ∙ sym (no_tenth _ _ _ (sym c.digits_behind-2.ensures ∙ c.in_err-tenths.was))

pub returns : goal.returns
returns c =
    rw c.unwrap_or.ensures
    (angle_read _ _ (sym c.digits_behind.ensures ∙ c.in_ok-digits_behind.was) (sym c.digits_behind-2.ensures ∙ c.in_ok-tenths.was) c.try_from.result c.try_from.ensures)
