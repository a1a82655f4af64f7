pub mod Begun
pub mod Loop
pub mod Places
pub mod Spelling
pub mod Taken
pub mod Values
