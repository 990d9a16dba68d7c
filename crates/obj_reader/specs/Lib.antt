pub mod Values
pub mod Statements
pub mod Holding
pub mod Obj
pub mod Progress
pub mod Reading
pub mod NameIndex
