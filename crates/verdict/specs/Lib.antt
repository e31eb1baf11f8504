pub mod Answers
pub mod Sweeping
