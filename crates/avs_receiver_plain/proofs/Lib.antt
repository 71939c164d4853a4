pub mod Sizing
pub mod Fitting
pub mod Restoring
