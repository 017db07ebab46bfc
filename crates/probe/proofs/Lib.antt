pub mod Probing
pub mod Counting
pub mod Filling
pub mod Putting
