pub mod Terms
pub mod Wire
pub mod Came
pub mod Shown
mod Rows
pub mod Linked
pub mod Events
pub mod Wants
pub mod Refusals
