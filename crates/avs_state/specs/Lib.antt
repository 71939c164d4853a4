pub mod Saying
pub mod StateDisk
pub mod Reading
