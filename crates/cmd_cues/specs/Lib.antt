pub mod Labels
pub mod LabelLines
pub mod Rows
pub mod Masters
pub mod Table
pub mod Json
pub mod Prints
