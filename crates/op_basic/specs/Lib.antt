pub mod Making
pub mod Motions
pub mod Turning
pub mod Deleting
pub mod Rows
pub mod Coordinates
pub mod Searching
