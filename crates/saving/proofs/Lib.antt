pub mod Text
pub mod Ends
pub mod Accepted
pub mod Again
pub mod Tests
mod Borders
