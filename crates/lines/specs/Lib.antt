pub mod Numerals
pub mod Splits
pub mod Left
pub mod Commands
pub mod Promise
