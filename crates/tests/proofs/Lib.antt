pub mod Passing
pub mod MayStand
pub mod Meeting
pub mod Passes
pub mod Limits
pub mod Unique
pub mod Reasons
