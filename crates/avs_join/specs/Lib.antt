pub mod Imported
pub mod Writing
pub mod Formatting
pub mod Importing
pub mod Arming
