pub mod Counting
pub mod Judging
pub mod Numbers
pub mod Once
pub mod Passed
pub mod PlacesOfLoads
pub mod Taking
