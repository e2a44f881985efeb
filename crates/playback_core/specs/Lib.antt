pub mod Playing
pub mod Played
pub mod Placed
pub mod Inside
pub mod Laws
pub mod Stands
