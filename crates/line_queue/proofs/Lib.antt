pub mod Accounting
mod Handed
pub mod Watching
