pub mod Commands
pub mod Examples
pub mod Gives
pub mod Lines
pub mod Script
