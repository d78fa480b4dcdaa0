pub mod Plays
pub mod Reports
pub mod Once
pub mod Puts
