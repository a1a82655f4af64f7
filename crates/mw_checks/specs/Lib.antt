pub mod Examples
pub mod Fresh
pub mod Kept
pub mod Log
pub mod Numbers
pub mod Rows
pub mod Views
