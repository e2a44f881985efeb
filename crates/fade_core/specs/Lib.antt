pub mod Level
pub mod Laws
pub mod Fading
pub mod Share
pub mod Digits
pub mod Stepping
pub mod Step
pub mod Plain
