pub mod FileLemmas
pub mod StoredLemmas
