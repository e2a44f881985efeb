pub mod ConsoleState
pub mod Streams
pub mod Offering
pub mod Stands
pub mod Spelling
pub mod Texts
pub mod CueLine
pub mod WhereLine
