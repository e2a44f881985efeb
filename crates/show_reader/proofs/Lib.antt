pub mod Found
pub mod Limits
pub mod OneShow
mod Rows
pub mod Lines
