pub mod OneMore
pub mod Apart
pub mod Ends
pub mod Joined
