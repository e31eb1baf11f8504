pub mod Choices
pub mod Sizes
pub mod Unique
