pub mod Notices
pub mod Pipes
pub mod Entries
pub mod Stands
pub mod Handing
pub mod Watches
pub mod Owed
pub mod LineOutputs
