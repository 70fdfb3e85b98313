pub mod Firsts
pub mod Aparts
pub mod Keepings
