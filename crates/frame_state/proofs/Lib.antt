pub mod Turning
pub mod Crossing
pub mod KnownWays
