pub mod Flags
pub mod Reading
