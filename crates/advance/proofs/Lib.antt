pub mod Leaping
pub mod Steps
pub mod Parts
