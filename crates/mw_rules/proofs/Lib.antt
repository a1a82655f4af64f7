pub mod Naming
pub mod Once
pub mod Staying
pub mod Views
