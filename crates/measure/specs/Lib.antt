pub mod Shifts
pub mod Sizes
pub mod Boxes
