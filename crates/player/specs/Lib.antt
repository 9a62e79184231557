pub mod Samples
pub mod Promises
pub mod Laws
pub mod Ticks
