pub mod Items
pub mod Labelling
pub mod OneShow
mod Rows
mod Terms
