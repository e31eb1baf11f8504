pub mod Machines
pub mod NodeLists
pub mod Unique
