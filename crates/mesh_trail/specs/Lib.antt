pub mod Noted
pub mod Tree
pub mod Kept
pub mod Pasts
pub mod PastLaws
pub mod Wide
pub mod Between
