pub mod Mem
pub mod Stretches
pub mod Lists
pub mod Entries
