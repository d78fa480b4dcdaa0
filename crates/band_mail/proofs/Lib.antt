pub mod Relays
pub mod Named
pub mod Putters
pub mod Taken
pub mod OfWorkers
pub mod AnyOrder
pub mod Popped
