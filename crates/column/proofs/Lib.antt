pub mod Lines
pub mod Judged
pub mod Checking
pub mod Storing
pub mod Writes
pub mod LineText
pub mod FileText
pub mod Refusing
pub mod Holds
pub mod RoundTrip
pub mod Prefix
pub mod Samples
mod Borders
