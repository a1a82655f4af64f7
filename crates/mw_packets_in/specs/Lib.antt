pub mod AsRead
pub mod Examples
pub mod Fields
pub mod Kept
pub mod Own
pub mod PacketsOf
pub mod Rows
pub mod View
