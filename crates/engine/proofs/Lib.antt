pub mod Alike
pub mod Demand3
pub mod Borders
mod Example
mod QuietExample
mod ClippedExample
