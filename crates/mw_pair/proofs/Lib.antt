pub mod Naming
pub mod Steps
pub mod Lifted
pub mod Since
