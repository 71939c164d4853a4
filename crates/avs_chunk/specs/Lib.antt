pub mod States
pub mod ChunkSet
pub mod Disks
pub mod Steps
pub mod Calls
pub mod Making
pub mod Finding
pub mod Arming
