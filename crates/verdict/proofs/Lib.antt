pub mod Sections
pub mod Pairs
pub mod Seen
pub mod Passing
pub mod Sweeps
pub mod Saying
pub mod Unique
