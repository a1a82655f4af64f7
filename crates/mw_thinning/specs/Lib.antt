pub mod Across
pub mod Checkpoints
pub mod Histories
pub mod Same
pub mod Thinning
