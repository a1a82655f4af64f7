pub mod Image
pub mod Journal
pub mod Opening
pub mod Reads
pub mod Refused
pub mod Scan
pub mod Settled
