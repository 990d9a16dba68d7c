pub mod Mappings
pub mod Naming
pub mod Firsts
pub mod Sweeps
pub mod Spanning
pub mod Pairing
pub mod Choosing
