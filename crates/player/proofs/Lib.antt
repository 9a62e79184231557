pub mod Parts
pub mod Decided
pub mod UpTo
pub mod Words
pub mod Same
pub mod Lines
pub mod Settings
pub mod Sayings
pub mod WholeLines
pub mod Blocks
pub mod Reading
pub mod Splits
pub mod Joined
pub mod Bounds
pub mod TickLines
mod TickExamples
pub mod Examples
mod Borders
