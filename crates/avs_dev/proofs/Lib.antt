pub mod BareCalls
pub mod BareViews
pub mod Outcomes
pub mod SomeDisks
pub mod Going
pub mod Soundly
