pub mod Faults
pub mod Files
pub mod Told
pub mod Calls
pub mod Stored
pub mod Memory
