pub mod LaneLemmas
pub mod SenderLemmas
pub mod Places
pub mod Streams
mod Rows
