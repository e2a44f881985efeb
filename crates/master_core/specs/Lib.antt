pub mod Settings
pub mod Merged
pub mod Inside
