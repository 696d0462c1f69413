pub mod Columns
pub mod Digits
pub mod Exact
pub mod Once
