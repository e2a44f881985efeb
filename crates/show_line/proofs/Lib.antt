pub mod Lowest
pub mod Ranges
pub mod Forms
pub mod Ranged
pub mod Wider
mod Rows
mod Terms
