pub mod Newest
pub mod Sounds
pub mod Arguments
pub mod Performances
pub mod Undoing
pub mod KeptLayers
pub mod Declared
