pub mod Words
pub mod Faults
pub mod Fixed
pub mod Lines
pub mod Numbers
pub mod Indices
pub mod Table
pub mod Names
