pub mod Members
pub mod Ring
pub mod Changes
pub mod Walk
pub mod Mapped
pub mod Limits
