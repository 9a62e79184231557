pub mod Bounds
pub mod Blocks
pub mod Moves
pub mod Reading
pub mod Written
