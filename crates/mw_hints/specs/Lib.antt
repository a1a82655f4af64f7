pub mod Answering
pub mod Book
pub mod Opening
pub mod Room
pub mod Scouted
pub mod Widening
