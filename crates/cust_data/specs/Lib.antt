pub mod Layers
pub mod Mixing
pub mod Faults
pub mod Column
pub mod Filled
pub mod Cells
pub mod Inside
pub mod Rows
