pub mod Reading
pub mod Plays
pub mod Traffic
pub mod Laws
pub mod Restarts
pub mod Programs
pub mod OldShows
pub mod Addresses
