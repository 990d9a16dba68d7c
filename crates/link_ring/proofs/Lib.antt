pub mod Members
pub mod Segments
pub mod Rings
pub mod Insertion
pub mod Removal
pub mod Paths
pub mod Reversal
pub mod Turning
pub mod Walks
pub mod Reading
pub mod Numbers
mod Samples
