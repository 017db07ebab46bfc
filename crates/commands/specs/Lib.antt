pub mod Texts
pub mod Says
pub mod Ends
