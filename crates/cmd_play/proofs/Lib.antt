pub mod Carrying
pub mod Running
pub mod Faults
pub mod Taking
pub mod Playing
pub mod Beginning
pub mod Moved
mod Terms
