pub mod Laying
pub mod Codes
pub mod Refused
pub mod Tables
pub mod Files
pub mod Prefix
mod Borders
