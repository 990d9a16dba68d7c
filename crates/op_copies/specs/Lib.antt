pub mod Duplicating
pub mod Rows
