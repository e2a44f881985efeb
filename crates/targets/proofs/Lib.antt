pub mod Firsts
pub mod Packets
