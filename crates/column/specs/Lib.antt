pub mod Checks
pub mod Line
pub mod File
pub mod Promises
pub mod Laws
