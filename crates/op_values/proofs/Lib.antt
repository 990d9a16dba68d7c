pub mod Puttings
pub mod LayerNumbers
pub mod CornerRows
pub mod SoundRows
pub mod Settings
