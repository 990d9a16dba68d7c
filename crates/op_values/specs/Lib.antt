pub mod Setting
pub mod Putting
pub mod Rows
