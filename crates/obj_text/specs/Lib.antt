pub mod Rows
pub mod Limits
pub mod WholeRows
pub mod Returned
