-- `job::loads_at` meets its contract. The invariant: the loads at the places passed are read.
use mathlib.Core.Path.{refl, sym, ◌∙◌}
use mathlib.Core.List.{[]}
use Prim.Native.Nat.{◌<◌}
use native.Mathlib.Omega.{arith}
use lib.ListN.{length, length-map}
use Rattle.whole.proofs.Indexed.{none_filled, one_more, all_filled, mapped}
use Rattle.job.specs.Places.{load_numbered, loads_at}
use Rattle.job.proofs.loads_at.Goals as goal

pub loop-i-init : goal.loop-i-init
unfolding loads_at
loop-i-init c = none_filled (rw length-map c.well_formed.1.0.1.0.1) refl

pub loop-i-preserved : goal.loop-i-preserved
unfolding loads_at
loop-i-preserved c =
    let start = c in
    let loop = c.loop-i in
    let there : loop.i < length start.args.row = omega (arith, start.well_formed.1.0.1.0.1) in
    one_more [] loop.invariant (omega arith) (c.load_numbered.ensures ∙ sym (mapped (load_numbered start.args.file.now) start.args.row loop.i [] 0 there))

pub returns : goal.returns
returns c = all_filled c.loop-i.invariant (omega arith)
