pub mod Tab
pub mod Listing
pub mod Writing
pub mod Chunks
pub mod Lists
