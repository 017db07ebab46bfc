pub mod Pushing
pub mod Chain
