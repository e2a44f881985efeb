pub mod Frame
pub mod Index
pub mod Sources
pub mod Inside
