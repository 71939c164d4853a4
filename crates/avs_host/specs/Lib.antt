pub mod Resting
pub mod Store
pub mod Facts
