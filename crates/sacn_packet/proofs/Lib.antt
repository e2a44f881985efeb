pub mod Names
pub mod Packets
pub mod Parts
pub mod Readable
mod Rows
pub mod Found
mod Differs
