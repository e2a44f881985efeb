pub mod Listens
pub mod Rehearsals
