pub mod Keys
pub mod Rows
pub mod Waiting
pub mod Replies
pub mod Faults
