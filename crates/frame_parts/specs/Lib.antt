pub mod Distances
pub mod Memories
