pub mod Whole
pub mod Job
pub mod Report
pub mod Run
pub mod Ends
pub mod Stops
pub mod Promise
pub mod Rows
