pub mod Fronts
pub mod Hex
pub mod Marks
pub mod Parts
mod Rows
pub mod InputLines
