mod Across
mod Alike
mod Checkpoints
mod Histories
mod Kept
mod Lifted
mod Thinned
mod Upon
