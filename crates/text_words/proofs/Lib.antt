pub mod EachLemmas
pub mod TextLemmas
pub mod NumberLemmas
pub mod OutcomeLemmas
pub mod TrimLemmas
