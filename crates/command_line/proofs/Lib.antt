pub mod Command
pub mod Walks
pub mod PlainLemmas
pub mod Parsed
pub mod Reading
