pub mod Job
pub mod Found
pub mod Plain
pub mod Rows
