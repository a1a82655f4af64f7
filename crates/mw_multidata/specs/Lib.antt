pub mod Digest
pub mod Names
pub mod OfSlot
pub mod Parts
pub mod SeedKept
pub mod SeedOf
pub mod Shape
pub mod Written
