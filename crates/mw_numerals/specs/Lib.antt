pub mod Examples
pub mod Laws
pub mod Marks
pub mod Numerals
pub mod Pieces
pub mod Values
pub mod View
