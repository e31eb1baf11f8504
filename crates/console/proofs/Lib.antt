pub mod FromArea
pub mod Walking
pub mod Promise
pub mod Writing
pub mod Printing
pub mod Taking
