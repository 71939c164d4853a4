pub mod Image
pub mod Segment
pub mod Causes
pub mod Lines
pub mod Staged
