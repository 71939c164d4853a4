pub mod Areas
pub mod Changes
