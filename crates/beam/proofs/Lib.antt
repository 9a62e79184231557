pub mod Copies
pub mod Filling
pub mod Sums
