pub mod Calls
pub mod Crashes
pub mod Drive
pub mod Ends
pub mod Examples
pub mod Input
pub mod Left
pub mod Runs
