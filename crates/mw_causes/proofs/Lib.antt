pub mod Endings
pub mod Unread
pub mod Reading
pub mod TableCauses
pub mod SeedReading
pub mod OneMeaning
