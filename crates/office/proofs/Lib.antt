pub mod Asked
pub mod BothWays
pub mod Lent
pub mod Once
pub mod ReadsBack
