-- `writing::written::put_header` meets its contract: six numbers of 16 bits.
use mathlib.Core.Path.{◌≡◌, sym, ap, ◌∙◌}
use mathlib.Core.List.{[]}
use native.Mathlib.Omega.{arith}
use lib.ListN.{length}
use Rattle.rules.specs.JobFile.{File}
use Rattle.rules.specs.Beyond.{onto}
use Rattle.rules.specs.WrittenFile.{u16_bytes, u16s_bytes}
use Rattle.rules.proofs.Bytes.{u16s_length, header_length}
use Rattle.writing.proofs.Writing.{all_bytes}
use Rattle.writing.proofs.written.put_header.Goals as goal

pub returns : goal.returns
unfolding onto u16_bytes u16s_bytes
returns c =
    let numbers = c.header_numbers.result in
    let items = c.map-bytes.ensures.items in
    let six : length numbers ≡ 6 = omega (arith, u16s_length numbers, ap (λ (bytes : File). length bytes) c.header_numbers.ensures, header_length c.args.walls c.args.loads) in
    let its = all_bytes u16_bytes numbers c.map-bytes.result (items.long ∙ sym six) (λ k h. (items.at k 0 [] (rw six at h)).2.met) in
    let bytes = c.copy_from_slice.ensures.after ∙ c.as_flattened.ensures.value ∙ its ∙ c.header_numbers.ensures in
    rw (bytes, header_length)
