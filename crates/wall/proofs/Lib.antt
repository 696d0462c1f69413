pub mod Answers
pub mod Contacts
pub mod Exact
pub mod Once
pub mod UnderHeel
pub mod Widths
