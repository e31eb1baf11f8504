pub mod Tests
pub mod Reasons
pub mod FirstHit
