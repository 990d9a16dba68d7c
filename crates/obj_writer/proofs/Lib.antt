pub mod NumberLemmas
pub mod WritingLemmas
pub mod NameLemmas
pub mod PlaceLemmas
pub mod FaceTextLemmas
