pub mod Encoding
pub mod Decoded
pub mod Passing
pub mod Effects
pub mod Working
pub mod Keyed
pub mod Executing
pub mod Ports
pub mod Runs
pub mod Refused
mod Borders
