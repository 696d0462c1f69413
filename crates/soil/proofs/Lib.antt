pub mod NeverRise
pub mod Once
pub mod Sines
