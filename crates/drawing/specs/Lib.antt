pub mod Drawing
pub mod Numbering
pub mod Joined
pub mod Laws
