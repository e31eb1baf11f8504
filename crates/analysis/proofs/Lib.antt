pub mod Ends
pub mod Numbers
pub mod Outcomes
pub mod Promise
pub mod Unique
