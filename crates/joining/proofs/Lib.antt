mod Copying
mod Joining
pub mod Delivers
pub mod Borders
