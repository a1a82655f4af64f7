pub mod Concerned
pub mod Receivers
pub mod Shared
pub mod Untouched
pub mod Written
