pub mod LineLemmas
pub mod TurnLemmas
