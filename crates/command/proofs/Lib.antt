pub mod Meanings
pub mod Files
pub mod Twins
