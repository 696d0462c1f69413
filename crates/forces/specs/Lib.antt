pub mod Components
pub mod Sorts
pub mod Tables
