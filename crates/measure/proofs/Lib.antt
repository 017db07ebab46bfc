pub mod Compare
pub mod Moving
pub mod Outness
pub mod Boxes
