pub mod Numerals
pub mod Patterns
pub mod Places
pub mod RunLemmas
pub mod WordsOf
