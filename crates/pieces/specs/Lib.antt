pub mod Nine
pub mod Gathering
