pub mod Alike
pub mod Notes
