pub mod Lost
pub mod Lines
pub mod Run
pub mod Perform
pub mod Stage
pub mod Play
pub mod Untold
pub mod Opened
