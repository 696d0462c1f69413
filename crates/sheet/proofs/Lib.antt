pub mod Once
pub mod Outcomes
pub mod Sheets
