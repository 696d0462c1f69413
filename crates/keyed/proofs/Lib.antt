pub mod Once
pub mod Reading
