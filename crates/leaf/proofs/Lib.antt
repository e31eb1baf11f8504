pub mod Gathering
pub mod Carrying
pub mod Components
pub mod Enumeration
pub mod Leaves
pub mod Offering
pub mod Promise
pub mod Unique
