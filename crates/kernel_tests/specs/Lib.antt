pub mod TwoLists
pub mod Sound
