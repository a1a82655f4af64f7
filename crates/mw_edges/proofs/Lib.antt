pub mod Failing
pub mod Fronts
pub mod KeptDisks
pub mod MemorySystems
pub mod Replaced
pub mod Systems
pub mod Told
