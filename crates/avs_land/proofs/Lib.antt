pub mod Areas
pub mod Reading
pub mod Writing
pub mod Landings
