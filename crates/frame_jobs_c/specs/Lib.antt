pub mod Held
pub mod Calls
pub mod Statuses
pub mod Logs
