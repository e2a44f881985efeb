pub mod Ticks
pub mod Streams
mod Numbers
mod Rows
