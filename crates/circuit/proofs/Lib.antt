pub mod Answers
pub mod Reports
pub mod Decoded
mod Borders
