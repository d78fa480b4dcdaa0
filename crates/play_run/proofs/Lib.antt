mod Spelled
mod Tallies
mod Sums
mod Once
mod Putting
mod Places
mod Delivered
pub mod Leaving
mod Taken
