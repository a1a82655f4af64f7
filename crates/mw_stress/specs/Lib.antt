pub mod Stress
pub mod Sent
pub mod Received
pub mod Lines
pub mod Made
