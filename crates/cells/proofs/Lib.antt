pub mod Finds
pub mod Edits
pub mod RowBits
