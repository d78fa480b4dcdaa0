mod Places
mod Drawn
mod Taking
mod Counting
mod Events
pub mod Journals
