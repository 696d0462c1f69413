-- `office::office_write` meets its contract: the bytes of any job are few enough for their bits.
use borrow.Author.Rules.{rules}
use mathlib.Core.Path.{◌≡◌, ◌∙◌}
use Rattle.office.proofs.Lent.{given, bytes_few, no_bytes}
use Rattle.office.proofs.office_write.Goals as goal

pub packed-requires : goal.packed-requires
packed-requires c = let same : c.map.result ≡ c.write.result = search rules in rw same (bytes_few c.write.result c.write.ensures)

pub returns : goal.returns
returns c =
    let written = c.write.ensures in
    let same : c.map.result ≡ c.write.result = search rules in
    record { answered = given _ _ (same ∙ written.answered) (no_bytes _ _ _) c.packed.ensures; holds = written.holds }
