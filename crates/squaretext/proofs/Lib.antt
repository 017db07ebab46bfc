pub mod Lines
pub mod Asking
