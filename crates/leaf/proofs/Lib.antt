pub mod BitLaws
pub mod CellLaws
pub mod Joins
pub mod Plain
pub mod Showing
pub mod Adding
pub mod AsSquares
