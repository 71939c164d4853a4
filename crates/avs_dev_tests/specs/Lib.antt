pub mod Errands
