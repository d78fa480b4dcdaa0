pub mod Entered
pub mod Asked
pub mod Traced
pub mod OneLog
pub mod Paged
pub mod Playable
pub mod Done
