pub mod Cover
pub mod Session
pub mod Messages
pub mod Prefix
pub mod Onward
pub mod Begins
pub mod Alone
pub mod HostCover
