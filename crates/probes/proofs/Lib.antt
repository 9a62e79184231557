pub mod Zips
pub mod Marking
pub mod Noting
