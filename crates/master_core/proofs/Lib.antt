pub mod Raised
pub mod Greatest
mod Rows
mod Terms
