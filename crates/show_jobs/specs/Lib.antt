pub mod JobRuns
pub mod Seemings
pub mod Checks
pub mod Lists
pub mod Levels
pub mod Sources
