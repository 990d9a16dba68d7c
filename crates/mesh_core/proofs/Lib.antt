pub mod Places
pub mod ValidCorners
pub mod Loaded
pub mod Layers
pub mod Losing
pub mod Filled
pub mod Kept
