pub mod Faults
pub mod Header
pub mod Layers
pub mod Name
pub mod Reading
pub mod Wire
