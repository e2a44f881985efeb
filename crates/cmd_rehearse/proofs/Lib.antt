pub mod Beginning
pub mod Printing
pub mod Within
mod PrintedRows
pub mod Hex
pub mod Sizes
pub mod Strays
pub mod Reading
mod Rows
