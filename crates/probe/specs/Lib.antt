pub mod Places
pub mod Adding
