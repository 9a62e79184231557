pub mod File
pub mod Saved
pub mod Laws
pub mod Tests
