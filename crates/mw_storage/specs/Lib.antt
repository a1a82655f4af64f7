pub mod Results
pub mod Places
pub mod Refusals
pub mod Sizes
pub mod Stored
