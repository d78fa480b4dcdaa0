pub mod Boards
pub mod BoardCode
pub mod Going
pub mod Draws
