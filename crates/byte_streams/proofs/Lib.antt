mod Consumed
pub mod Parts
mod Digits
pub mod Joined
