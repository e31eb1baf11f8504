pub mod Subsets
pub mod Yielding
pub mod Promise
