pub mod Forests
pub mod Views
pub mod AtLeastOne
pub mod WithinLimits
pub mod MemoryBounds
pub mod Alike
pub mod SizeTables
pub mod Below
