pub mod There
pub mod Loose
pub mod Sums
