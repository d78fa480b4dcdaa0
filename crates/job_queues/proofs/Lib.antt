pub mod Fifos
pub mod Places
pub mod Threes
pub mod Picks
pub mod Pools
pub mod Founds
pub mod Levels
pub mod Ranges
