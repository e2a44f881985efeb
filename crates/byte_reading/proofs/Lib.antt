pub mod ShortText
pub mod ReadLines
pub mod SoFar
