pub mod Triangle
pub mod Working
