pub mod Beams
pub mod Causal
pub mod Own
pub mod Clips
pub mod Wire
pub mod Quiet
pub mod Words
pub mod Star
pub mod Clock
pub mod ClockExamples
pub mod Bench
mod Borders
mod ClipBorders
