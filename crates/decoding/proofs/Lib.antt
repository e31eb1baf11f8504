pub mod Bytes
pub mod Decodes
pub mod Shapes
pub mod Unique
