pub mod Nodes
pub mod Memory
pub mod Marking
