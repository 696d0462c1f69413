-- `checks::has_failed` meets its contract: the mask takes the lowest digit of what is shifted.
use Prim.Native.Nat.{◌/◌, ◌^◌}
use lib.Bits.{and_mask}
use Rattle.rules.specs.SheetLine.{is_set}
use Rattle.checks.proofs.has_failed.Goals as goal

pub returns : goal.returns
unfolding is_set
returns c = rw (← c.shift_of.ensures.0, and_mask (c.args.failures / 2 ^ c.shift_of.result) 1)
