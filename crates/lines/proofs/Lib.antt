pub mod Splitting
pub mod Text
pub mod Reading
pub mod Lengths
pub mod Promise
