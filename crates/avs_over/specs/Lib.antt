pub mod Slots
pub mod Over
