-- `job::bytes::read_past_end` meets its contract. The invariant: the numbers passed are read.
use mathlib.Core.Path.{refl, sym, ◌∙◌}
use Rattle.whole.proofs.Indexed.{none_filled, one_more, all_filled}
use Rattle.rules.proofs.Bytes.{u32s_count}
use Rattle.job.proofs.Numbers.{number_at}
use Rattle.job.proofs.bytes.read_past_end.Goals as goal

pub loop-k-init : goal.loop-k-init
loop-k-init c = none_filled (u32s_count _ _ _) refl

pub loop-k-preserved : goal.loop-k-preserved
loop-k-preserved c =
    let inside = c.loop-k-test.true in one_more 0 c.loop-k.invariant inside (c.u32_at.ensures ∙ sym (number_at _ _ _ _ inside))

pub returns : goal.returns
returns c = all_filled c.loop-k.invariant c.loop-k-test.false
