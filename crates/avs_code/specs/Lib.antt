pub mod Bytes
pub mod Rules
pub mod Label
pub mod Header
pub mod QueueHeader
pub mod ConfigHeader
pub mod Slot
pub mod GroupBlock
