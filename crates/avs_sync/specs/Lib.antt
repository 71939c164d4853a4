pub mod Machine
pub mod Note
pub mod Parts
pub mod Session
