pub mod Output
pub mod Walking
pub mod Promise
