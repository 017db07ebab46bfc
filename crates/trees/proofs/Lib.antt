pub mod Rows
pub mod Growing
