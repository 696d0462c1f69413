-- `writing::bytes::put_u32s` meets its contract. The invariant: the numbers that were passed are put.
use mathlib.Core.Path.{◌≡◌, refl, ◌∙◌}
use Prim.Native.Nat.{◌+◌, ◌-◌, ◌*◌}
use native.Mathlib.Omega.{arith}
use lib.ListN.{get_or}
use Rattle.rules.specs.WrittenFile.{u32_bytes, u32s_bytes}
use Rattle.rules.proofs.Bytes.{u32_sized}
use Rattle.writing.proofs.Writing.{no_number, next_number, all_numbers, in_place, low_first}
use Rattle.writing.proofs.bytes.put_u32s.Goals as goal

pub loop-k-init : goal.loop-k-init
loop-k-init c = no_number u32_sized c.requires

pub loop-k-preserved : goal.loop-k-preserved
loop-k-preserved c =
    let at = 4 * c.loop-k.k in
    let number = get_or c.args.numbers.now c.loop-k.k 0 in
    let four : at + 4 - at ≡ 4 = omega arith in
    let bytes : c.copy_from_slice.new.self ≡ u32_bytes number = c.copy_from_slice.ensures.after ∙ c.to_le_bytes.ensures ∙ low_first number in
    rw (four, bytes, in_place at 4 c.loop-k.out (u32_bytes number) (u32_sized number)) (next_number c.loop-k.invariant c.loop-k-test.true refl)

pub returns : goal.returns
unfolding u32s_bytes
returns c = all_numbers c.loop-k.invariant c.loop-k-test.false
