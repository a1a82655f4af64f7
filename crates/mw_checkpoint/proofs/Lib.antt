pub mod Carrying
pub mod HeldTexts
pub mod MetKeys
pub mod Naming
pub mod Pairing
pub mod Settling
pub mod Spelt
pub mod WholeCheckpoints
