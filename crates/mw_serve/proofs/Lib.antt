mod Lives
mod Ends
mod Calls
mod Keeping
mod Hosts
mod Sending
mod Files
pub mod Starting
pub mod WholeLives
pub mod Pairs
mod Accepting
pub mod PairLives
