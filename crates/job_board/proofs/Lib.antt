pub mod Working
pub mod Staying
pub mod Applying
pub mod Owning
pub mod Coming
pub mod Ending
pub mod Crossing
