pub mod Append
pub mod Writing
pub mod Promise
