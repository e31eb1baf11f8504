pub mod Places
pub mod Fillings
pub mod Loops
pub mod Storing
pub mod Filled
pub mod Unique
