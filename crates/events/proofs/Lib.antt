pub mod Booleans
pub mod Members
pub mod Machine
pub mod Operations
pub mod Tests
pub mod Widths
pub mod Laws
pub mod Unique
