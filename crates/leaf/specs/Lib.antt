pub mod Words
pub mod Shown
pub mod AsSquares
pub mod Fates
