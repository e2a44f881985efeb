pub mod Levels
pub mod Found
pub mod Look
pub mod Due
pub mod Places
mod Rows
mod Terms
