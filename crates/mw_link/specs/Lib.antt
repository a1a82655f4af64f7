pub mod Dials
pub mod Logs
pub mod Memory
pub mod Sockets
pub mod Tells
