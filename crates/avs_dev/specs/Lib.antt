pub mod Seen
pub mod Rack
pub mod Memory
pub mod MemRacks
pub mod Devices
pub mod Below
pub mod Bare
