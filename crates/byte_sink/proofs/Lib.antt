pub mod WroteLemmas
