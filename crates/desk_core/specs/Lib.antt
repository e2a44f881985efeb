pub mod Played
pub mod Refusals
pub mod Meaning
pub mod DeskState
pub mod Stands
pub mod Inside
pub mod Ticks
