pub mod Counted
pub mod EntryBytes
pub mod Marking
pub mod Formatting
pub mod EntryBlocks
pub mod Tallied
pub mod Staged
pub mod Mapped
