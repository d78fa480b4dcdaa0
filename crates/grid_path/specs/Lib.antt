pub mod Bordered
pub mod Levels
pub mod Around
pub mod Distances
