pub mod HandleValues
pub mod Values
pub mod Copying
pub mod EventsBack
pub mod Faults
