pub mod AllKnown
pub mod Effects
pub mod Gifts
pub mod Grown
pub mod ReadOnce
pub mod Sets
pub mod Statuses
pub mod Values
