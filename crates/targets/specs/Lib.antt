pub mod Datagram
pub mod Addressed
pub mod Kept
pub mod Address
pub mod Choice
pub mod Misfit
