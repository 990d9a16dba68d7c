pub mod Counts
pub mod Splits
