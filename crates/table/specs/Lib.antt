pub mod Sameness
pub mod Keeping
pub mod Contents
pub mod Theorems
pub mod Logged
