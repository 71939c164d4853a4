pub mod Faults
pub mod Ends
pub mod Run
pub mod Cuts
pub mod Bad
