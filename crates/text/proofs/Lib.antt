pub mod Decimals
pub mod Drawings
pub mod Lengths
pub mod Once
pub mod Placing
