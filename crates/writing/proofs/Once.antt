-- Document 01, "How strictly it is promised": no second answer fits, and no second buffer.
use Rattle.whole.proofs.OnlyOne.{Once, Free, agree, lent, past}
use Rattle.writing.specs.contracts as contracts
use Rattle.writing.proofs as writing

pub write : Once contracts.write.ended writing.write.Reads.Asked writing.write.Reads.Learnt
write = (λ _ _. tt, λ _ _ _ _ _ _ is its. (agree is.answered its.answered, past (past (lent (agree is.holds its.holds)))))

-- ---- the functions that `job`'s trait `Records` wants, of lent records: no caller is asked for anything
pub lent_wall_count : Free contracts.lent.LentRecords.wall_count.ended writing.lent.LentRecords.wall_count.Reads.Asked
lent_wall_count = λ _ _. tt

pub lent_wall_at : Free contracts.lent.LentRecords.wall_at.ended writing.lent.LentRecords.wall_at.Reads.Asked
lent_wall_at = λ _ _. tt

pub lent_lengths_at : Free contracts.lent.LentRecords.lengths_at.ended writing.lent.LentRecords.lengths_at.Reads.Asked
lent_lengths_at = λ _ _. tt

pub lent_entry_count : Free contracts.lent.LentRecords.entry_count.ended writing.lent.LentRecords.entry_count.Reads.Asked
lent_entry_count = λ _ _. tt

pub lent_entry_at : Free contracts.lent.LentRecords.entry_at.ended writing.lent.LentRecords.entry_at.Reads.Asked
lent_entry_at = λ _ _. tt
