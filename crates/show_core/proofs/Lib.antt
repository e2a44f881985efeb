pub mod Sorted
pub mod Removed
pub mod Tables
pub mod Changes
pub mod Ranges
pub mod Entries
pub mod Cues
pub mod InRange
pub mod Ordinals
mod Rows
mod Terms
