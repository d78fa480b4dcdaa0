pub mod Bands
pub mod Items
