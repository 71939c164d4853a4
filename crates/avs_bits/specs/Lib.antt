pub mod Bit
pub mod BitSet
