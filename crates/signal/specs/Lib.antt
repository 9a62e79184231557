pub mod Signal
pub mod History
pub mod Contents
pub mod Clock
pub mod Samples
pub mod Wire
pub mod Clips
pub mod Laws
