mod Quarters
mod SameDisks
mod Images
mod Sums
mod Saving
mod Chains
mod StateBlocks
mod Writing
mod Reading
mod Formatting
pub mod Counts
