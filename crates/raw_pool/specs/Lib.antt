pub mod FreeList
pub mod Inside
pub mod Lends
pub mod Ownership
pub mod Place
pub mod PoolLends
pub mod Slots
pub mod Tags
