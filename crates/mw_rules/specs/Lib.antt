pub mod Rule
pub mod Examples
pub mod Holds
pub mod Names
pub mod View
pub mod Laws
pub mod Ruling
