pub mod Behind
pub mod Concerned
pub mod Received
pub mod Untouched
