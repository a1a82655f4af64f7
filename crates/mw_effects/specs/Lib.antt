pub mod Entered
pub mod Given
pub mod News
pub mod Parts
pub mod Playable
pub mod Reading
pub mod Storing
pub mod Views
