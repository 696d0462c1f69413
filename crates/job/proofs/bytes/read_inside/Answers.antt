-- `job::bytes::read_inside` meets its contract. The invariant: the numbers passed are read.
use mathlib.Core.Path.{◌≡◌, refl, sym, ap, ◌∙◌}
use mathlib.Core.List.{List, []}
use Prim.Native.Nat.{ℕ, ◌+◌, ◌*◌, ◌<◌}
use native.Mathlib.Omega.{arith}
use lib.ListN.{length, get_or}
use Rattle.rules.specs.JobFile.{u32_at}
use Rattle.rules.specs.WrittenFile.{record_count}
use Rattle.whole.proofs.Indexed.{none_filled, one_more, all_filled}
use Rattle.rules.proofs.Bytes.{u32s_count}
use Rattle.job.proofs.Numbers.{number_at, chunked, in_at, number_in}
use Rattle.job.proofs.bytes.read_inside.Goals as goal

pub loop-k-init : goal.loop-k-init
loop-k-init c = none_filled (u32s_count _ _ _) refl

pub loop-k-preserved : goal.loop-k-preserved
loop-k-preserved c =
    let k = c.loop-k.k in
    let bytes = c.args.bytes.now in
    let inside = c.loop-k-test.true in
    let whole : k < record_count 4 bytes = omega (arith, c.requires) in
    let chunk = ap (λ (chunks : List (List ℕ)). get_or chunks k []) (c.as_chunks.ensures.front ∙ chunked 4 bytes) ∙ in_at 4 bytes k whole in
    let read : c.from_le_bytes.result ≡ u32_at bytes (4 * k) = c.from_le_bytes.ensures ∙ rw chunk (number_in bytes k) in
    let from : 0 + 4 * k ≡ 4 * k = omega arith in
    one_more 0 c.loop-k.invariant inside (read ∙ sym (rw from at (number_at bytes 0 (length c.args.numbers.now) k inside)))

pub returns : goal.returns
returns c = all_filled c.loop-k.invariant c.loop-k-test.false
