pub mod Each
pub mod Text
pub mod Trims
pub mod Laws
pub mod Verdict
pub mod Outcome
pub mod Rows
