pub mod Stores
pub mod States
