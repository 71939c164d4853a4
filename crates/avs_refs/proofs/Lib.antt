pub mod Rising
pub mod Consistent
pub mod Changes
pub mod Stacks
pub mod Draining
