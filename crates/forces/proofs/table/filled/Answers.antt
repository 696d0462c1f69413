-- `forces::table::filled` meets its contract. The invariant: the components of the loads passed are stored, their dead and their live parts.
use mathlib.Core.Path.{◌≡◌, refl, ap, ◌∙◌}
use mathlib.Core.List.{List, [], ◌++◌, map}
use Prim.Native.Nat.{◌-◌}
use native.Mathlib.Omega.{arith}
use lib.ListN.{length, take, length-append}
use lib.Seq.{take_at}
use borrow.Rule.Slice.PartMut.{mid_of, put_mid, same_len_mid}
use Rattle.std.proofs.lemmas.Slice.{take-put_mid}
use Rattle.forces.specs.declared.component.Component.{Component}
use Rattle.forces.specs.Sorts.{nothing_here}
use Rattle.forces.specs.Tables.{components, weights_count, own_rows, dead_part, live_part, rows_in}
use Rattle.forces.proofs.Runs.{none_made, next_made, all_stored}
use Rattle.forces.proofs.table.filled.Goals as goal

-- behind as many weights as there are, as many pushes as there are
both_put : {A : Type 0} {one two front behind : List A} (rest : List A) → length front ≡ weights_count → length behind ≡ 5 → one ≡ front → two ≡ behind
    → take own_rows (put_mid weights_count 5 (one ++ rest) two) ≡ front ++ behind
both_put {front = front} {behind} rest h k e f =
    rw (e, f)
    (take-put_mid weights_count 5 (front ++ rest) behind own_rows (omega arith) (rw length-append (omega arith)) ∙ rw (take_at front rest weights_count h))

-- which is as long as it was
as_long : {A : Type 0} (one two rest : List A) → length one ≡ weights_count → length rest ≡ components - weights_count
    → length two ≡ length (mid_of weights_count 5 (one ++ rest)) → length (put_mid weights_count 5 (one ++ rest) two) ≡ components
as_long one two rest h k e = same_len_mid weights_count 5 (one ++ rest) two e ∙ rw length-append (omega arith)

pub loop-i-init : goal.loop-i-init
loop-i-init c =
    none_made dead_part live_part c.args.loads.now c.told-loads (omega arith) (as_long _ _ _ c.copy_from_slice.ensures.len refl c.copy_from_slice-2.ensures.len)

pub loop-i-preserved : goal.loop-i-preserved
loop-i-preserved c =
    let now = c in
    next_made dead_part live_part now.args.loads.now now.loop-i.invariant nothing_here [] _ _ _ _ (omega arith) refl refl c.dead_part.ensures c.live_part.ensures

pub returns : goal.returns
unfolding rows_in
returns c =
    let loads = c.args.loads.now in
    all_stored c.loop-i.invariant (omega arith) refl
    ∙ ap (λ (front : List Component). front ++ map dead_part loads ++ map live_part loads)
    (both_put _ c.told-weights c.told-pushes c.copy_from_slice.ensures.after c.copy_from_slice-2.ensures.after)
