pub mod LentRecords
pub mod Once
pub mod Writing
