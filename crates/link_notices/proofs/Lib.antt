pub mod Turns
pub mod Looks
