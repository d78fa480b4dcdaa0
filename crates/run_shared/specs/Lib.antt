pub mod Printed
pub mod Causes
pub mod Counts
pub mod Holds
