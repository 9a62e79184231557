pub mod Flat
pub mod Instructions
pub mod Code
pub mod Codes
pub mod Check
pub mod Run
pub mod Steps
