pub mod Landed
pub mod Landing
pub mod Redo
pub mod Steps
