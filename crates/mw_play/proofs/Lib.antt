pub mod Carried
pub mod Ending
pub mod Following
pub mod Kept
pub mod Reading
pub mod Refusing
