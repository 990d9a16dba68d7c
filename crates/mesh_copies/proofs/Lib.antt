pub mod Appended
pub mod Polygons
pub mod Copied
pub mod Cuts
pub mod Copyings
pub mod Wholes
