pub mod Chosen
pub mod Played
