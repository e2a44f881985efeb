pub mod Texts
pub mod Given
pub mod WordsLemmas
mod Refusals
mod Rows
pub mod Targets
pub mod Watched
