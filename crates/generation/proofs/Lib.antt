pub mod Cursors
pub mod Windows
pub mod Dones
pub mod Steps
pub mod RowLaws
pub mod Handed
