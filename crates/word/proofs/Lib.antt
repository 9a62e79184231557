pub mod Lists
pub mod Each
pub mod Low
mod Unnumbered
pub mod Selector
pub mod Forms
pub mod Exceptions
pub mod Clocks
pub mod OperandCounts
mod Borders
