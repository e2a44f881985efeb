pub mod Universes
pub mod Drawn
pub mod Small
mod Rows
pub mod FrameSlots
pub mod LiveTick
mod Terms
