pub mod KnownLemmas
pub mod HeldLemmas
pub mod LinesLemmas
pub mod SoFar
pub mod GivenLemmas
pub mod MemoryLemmas
pub mod Exits
