pub mod Advancing
pub mod Gathering
