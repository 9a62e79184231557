pub mod Copy
pub mod Join
pub mod Laws
