pub mod Keywords
pub mod Faults
pub mod Pairs
pub mod Said
pub mod Sound
