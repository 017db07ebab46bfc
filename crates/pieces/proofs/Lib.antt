pub mod Nine
pub mod Words
pub mod Steady
