pub mod Wrote
pub mod Causes
