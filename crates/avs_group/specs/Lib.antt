pub mod Group
pub mod Calls
pub mod Named
pub mod Status
pub mod Reads
