pub mod Volumes
pub mod Moves
pub mod Numbers
