pub mod Marks
pub mod Works
pub mod Writes
pub mod Formatted
pub mod Founds
pub mod Listing
