pub mod Padding
pub mod Corners
