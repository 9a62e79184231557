pub mod Decimal
pub mod Texts
pub mod Parse
pub mod Scan
pub mod Stores
pub mod Filling
pub mod Found
pub mod Put
pub mod Written
pub mod Room
pub mod RowText
pub mod NoFeed
pub mod Exact
mod Samples
mod Borders
