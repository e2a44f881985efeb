pub mod Shows
pub mod Packets
pub mod Universes
pub mod Rows
mod LookRows
