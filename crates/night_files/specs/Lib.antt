pub mod FileFaults
pub mod FileLocks
pub mod FileNodes
pub mod LockLists
pub mod LockPaths
pub mod RecordUses
