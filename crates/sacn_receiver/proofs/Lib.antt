pub mod Members
pub mod Apart
pub mod Same
pub mod Taking
pub mod Merging
pub mod Independent
pub mod Rows
pub mod SlotsLines
pub mod Digits
mod TextRows
