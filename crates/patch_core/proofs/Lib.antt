pub mod Frames
pub mod InARow
pub mod Indexed
pub mod Redrawn
pub mod Sourced
pub mod Vectors
mod Rows
mod Terms
