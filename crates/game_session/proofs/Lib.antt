pub mod Rising
pub mod Faultless
pub mod AgentTrees
pub mod LevelsKept
