pub mod Building
pub mod Collecting
pub mod Fields
