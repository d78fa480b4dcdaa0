pub mod Links
pub mod Chunks
