pub mod Steps
pub mod Table
