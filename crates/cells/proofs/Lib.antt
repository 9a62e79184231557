pub mod Parts
pub mod Line
pub mod Playing
pub mod Calls
