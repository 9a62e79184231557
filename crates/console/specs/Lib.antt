pub mod Held
pub mod Coded
pub mod Block
pub mod Messages
