pub mod ByDigits
pub mod Fade
pub mod Look
pub mod Shares
pub mod Standing
mod Rows
