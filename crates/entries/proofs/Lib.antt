pub mod Entries
pub mod Candidates
pub mod Images
pub mod Narrower
pub mod Inside
pub mod Unique
