pub mod Packing
pub mod Noting
