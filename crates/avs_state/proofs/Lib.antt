pub mod FirstBlocks
pub mod Grouped
pub mod SlotStates
pub mod StateDisks
