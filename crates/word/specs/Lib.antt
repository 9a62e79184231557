pub mod Choice
pub mod Word
pub mod Limits
pub mod LowBits
pub mod Operation
pub mod Tick
pub mod Table
