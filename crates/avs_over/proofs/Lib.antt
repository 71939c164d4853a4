pub mod Giving
pub mod Labels
pub mod Taking
