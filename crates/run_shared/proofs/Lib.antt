pub mod Texts
pub mod Outcomes
mod Counting
mod Holding
pub mod Sends
