pub mod Works
pub mod Playing
