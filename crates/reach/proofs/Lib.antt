pub mod Records
pub mod Labels
pub mod Arrays
pub mod Tables
pub mod Linking
pub mod Testing
pub mod Unique
