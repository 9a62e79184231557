pub mod Encoded
pub mod Report
pub mod Decoded
