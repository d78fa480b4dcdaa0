pub mod Thinks
pub mod BoardSteps
pub mod Tasks
pub mod Leases
