pub mod Scan
pub mod File
pub mod Encoding
pub mod Promise
pub mod Cases
