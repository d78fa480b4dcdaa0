pub mod Names
pub mod Waiting
pub mod Fifos
pub mod Places
pub mod Lanes
pub mod Pool
pub mod Picks
