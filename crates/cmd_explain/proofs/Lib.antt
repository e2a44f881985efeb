pub mod Ascending
pub mod Commas
pub mod Lines
pub mod NoteLines
pub mod OneLine
pub mod PartLists
pub mod Pieces
pub mod WholeText
mod Rows
mod Terms
