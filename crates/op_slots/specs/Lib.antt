pub mod Mapping
pub mod Bindings
pub mod Values
pub mod Spans
pub mod Rows
