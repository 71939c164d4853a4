pub mod Dues
pub mod SomeBits
pub mod Stops
pub mod WholeBytes
pub mod Parts
