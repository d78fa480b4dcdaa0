pub mod CutThoughts
pub mod Crossing
