pub mod Mixed
pub mod Growing
