pub mod Rigs
pub mod Reading
