pub mod Ends
pub mod Ids
pub mod Printing
pub mod Runs
pub mod Saves
pub mod Turns
pub mod Words
