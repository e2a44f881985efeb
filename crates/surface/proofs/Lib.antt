pub mod Lanes
pub mod There
