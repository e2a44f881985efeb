pub mod Clock
pub mod Failure
pub mod Input
pub mod InputEnd
pub mod Kept
