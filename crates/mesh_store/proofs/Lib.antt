pub mod Places
pub mod Directory
pub mod Growth
pub mod Writes
pub mod Names
pub mod Clearing
pub mod PartRows
