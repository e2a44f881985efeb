pub mod ShortLines
pub mod LinesLeft
