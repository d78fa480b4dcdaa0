pub mod Boards
pub mod Jobs
pub mod Trace
pub mod Slices
pub mod Laws
pub mod Spans
