pub mod Interning
pub mod Opening
