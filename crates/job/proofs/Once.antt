-- Document 01, "How strictly it is promised": no second answer fits, of each public entry.
use mathlib.Core.List.{Mem}
use Prim.Native.Nat.{ℕ}
use Rattle.whole.proofs.OnlyOne.{Once, OnceLent, Free, agree, by_equation, lent, past, also}
use denote.RattleType.{RattleType}
use denote.Param.Laws.{Laws}
use mir.Syntax.{Dict}
use Rattle.job.specs.declared.ranges.Records.{Ghosts}
use Rattle.job.specs.contracts as contracts
use Rattle.job.proofs as job

pub first_refusal_lem : Once contracts.first_refusal.ended job.first_refusal.Reads.Asked job.first_refusal.Reads.Learnt
first_refusal_lem = (λ _ _. tt, λ _ _ _ _ _ _. by_equation)

pub wall_count_lem : Once contracts.wall_count.ended job.wall_count.Reads.Asked job.wall_count.Reads.Learnt
wall_count_lem = (λ _ _. tt, λ _ _ _ _ _ _. by_equation)

pub wall_at_lem : Once contracts.wall_at.ended job.wall_at.Reads.Asked job.wall_at.Reads.Learnt
wall_at_lem = (λ _ _. tt, λ _ _ _ _ _ _. by_equation)

pub places : Once contracts.places.ended job.places.Reads.Asked job.places.Reads.Learnt
places = (λ _ _. tt, λ _ _ _ _ _ _. by_equation)

pub loads_at_lem : Once contracts.loads_at.ended job.loads_at.Reads.Asked job.loads_at.Reads.Learnt
loads_at_lem = (λ _ _. tt, λ _ _ _ _ _ _. by_equation)

pub take_apart : Once contracts.take_apart.ended job.take_apart.Reads.Asked job.take_apart.Reads.Learnt
take_apart = (
  λ _ _. tt,
  λ _ _ _ _ _ _ is its. (agree is.answered its.answered, past (also (agree is.walls_held its.walls_held) (lent (agree is.loads_held its.loads_held)))),
)

-- ---- the functions that the trait `Records` wants, of a file's records: no caller is asked for anything
pub file_wall_count : Free contracts.records.JobFileRecords.wall_count.ended job.records.JobFileRecords.wall_count.Reads.Asked
file_wall_count = λ _ _. tt

pub file_wall_at : Free contracts.records.JobFileRecords.wall_at.ended job.records.JobFileRecords.wall_at.Reads.Asked
file_wall_at = λ _ _. tt

pub file_lengths_at : Free contracts.records.JobFileRecords.lengths_at.ended job.records.JobFileRecords.lengths_at.Reads.Asked
file_lengths_at = λ _ _. tt

pub file_entry_count : Free contracts.records.JobFileRecords.entry_count.ended job.records.JobFileRecords.entry_count.Reads.Asked
file_entry_count = λ _ _. tt

pub file_entry_at : Free contracts.records.JobFileRecords.entry_at.ended job.records.JobFileRecords.entry_at.Reads.Asked
file_entry_at = λ _ _. tt

-- ---- of records of any kind, whatever type has them: no second answer fits, and nothing is asked but what Rust asks, that what the type borrows is still lent
module _ (Self : RattleType) (laws : Laws Self) (records : Ghosts Self.Denot) (dict : Dict) where
  pub check_walls : OnceLent (contracts.ranges.Records.check_walls.ended Self records dict) (λ κs given. (life : ℕ) → Mem life Self.lives → Mem life κs.1.0) (job.ranges.Records.check_walls.Reads.Asked Self laws records dict) (job.ranges.Records.check_walls.Reads.Learnt Self laws records dict)
  check_walls = (λ _ _ still. still, λ _ _ _ _ _ _. by_equation)

  pub entry_fits : OnceLent (contracts.ranges.Records.entry_fits.ended Self records dict) (λ κs given. (life : ℕ) → Mem life Self.lives → Mem life κs.1.0) (job.ranges.Records.entry_fits.Reads.Asked Self laws records dict) (job.ranges.Records.entry_fits.Reads.Learnt Self laws records dict)
  entry_fits = (λ _ _ still. still, λ _ _ _ _ _ _. by_equation)

  pub check_loads : OnceLent (contracts.ranges.Records.check_loads.ended Self records dict) (λ κs given. (life : ℕ) → Mem life Self.lives → Mem life κs.1.0) (job.ranges.Records.check_loads.Reads.Asked Self laws records dict) (job.ranges.Records.check_loads.Reads.Learnt Self laws records dict)
  check_loads = (λ _ _ still. still, λ _ _ _ _ _ _. by_equation)
