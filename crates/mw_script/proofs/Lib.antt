pub mod Digits
pub mod Front
pub mod Judged
pub mod Steps
pub mod Texts
pub mod Walks
