mod Rows
pub mod Accepting
pub mod Answering
pub mod Asked
pub mod Cases
pub mod KeyLemmas
pub mod Ending
pub mod Nights
pub mod Fine
pub mod Recalling
pub mod Records
pub mod Spelled
pub mod TypedLemmas
pub mod Turns
mod Terms
