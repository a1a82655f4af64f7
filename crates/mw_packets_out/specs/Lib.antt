pub mod Joined
pub mod Kept
pub mod Places
pub mod Room
pub mod View
