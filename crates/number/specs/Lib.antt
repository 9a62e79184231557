pub mod Number
pub mod Row
pub mod Put
pub mod Laws
pub mod Promises
