pub mod Acting
pub mod Appending
mod CrossingMaps
mod CrossingValues
pub mod Crosses
pub mod Entering
pub mod Going
pub mod Leaving
pub mod Lived
pub mod Naming
pub mod OneSeed
pub mod Parsing
pub mod Resuming
