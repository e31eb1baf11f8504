pub mod Finding
pub mod Yielding
