pub mod Names
pub mod Folders
pub mod Steps
pub mod Making
pub mod Thinning
pub mod Choosing
