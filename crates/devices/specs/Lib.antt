pub mod Tape
pub mod Send
pub mod Sends
pub mod Failing
