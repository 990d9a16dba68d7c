pub mod Operators
pub mod State
pub mod Steps
pub mod Performing
pub mod Laws
pub mod Rows
