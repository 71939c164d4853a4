pub mod Wanting
pub mod Exact
