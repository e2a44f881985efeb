pub mod Cuts
pub mod Choices
pub mod Weighing
mod LineSearch
mod Rows
