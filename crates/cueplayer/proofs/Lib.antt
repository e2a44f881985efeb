pub mod Sources
pub mod Playing
pub mod Addresses
pub mod Receipts
pub mod Restarting
pub mod TakingOver
pub mod Sends
pub mod Showing
pub mod Listening
pub mod Nights
pub mod Records
pub mod OldShows
mod Rows
mod Terms
