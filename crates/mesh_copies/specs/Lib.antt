pub mod Copying
pub mod CopyingSteps
