pub mod Cells
pub mod Delay
pub mod Load
pub mod Block
