pub mod Row
pub mod Answer
pub mod Closed
pub mod Killing
pub mod KillingSteps
pub mod Moving
pub mod Turning
pub mod Closing
