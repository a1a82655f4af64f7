pub mod AsRead
pub mod Kept
pub mod Others
pub mod Passed
pub mod Ranges
