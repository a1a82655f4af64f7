pub mod Further
pub mod Joined
pub mod Numbers
pub mod Places
pub mod Prints
pub mod Tokens
pub mod Writable
