pub mod Bounds
pub mod Carried
pub mod Cases
pub mod Once
pub mod Reports
pub mod Workable
