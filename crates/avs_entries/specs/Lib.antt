pub mod Entries
pub mod Counting
pub mod Slots
pub mod Tallied
pub mod Putting
pub mod Parts
pub mod Staging
pub mod Bitmap
