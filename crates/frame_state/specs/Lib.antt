pub mod Names
pub mod Contents
pub mod Logic
pub mod Slots
pub mod Thoughts
