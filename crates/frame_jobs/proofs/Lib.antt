pub mod BoardEvents
pub mod Going
pub mod Refusing
pub mod Taking
