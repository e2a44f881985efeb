pub mod Texts
pub mod Prints
pub mod Faults
pub mod Slots
