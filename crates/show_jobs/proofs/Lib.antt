pub mod Seemings
pub mod Checks
