pub mod Stores
pub mod Slots
