pub mod Held
pub mod Rooms
pub mod Calls
pub mod Staging
pub mod Counting
pub mod Arming
pub mod Any
