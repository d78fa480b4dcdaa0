pub mod Open
pub mod Bound
pub mod Agree
pub mod Followed
pub mod Seasons
