pub mod Counting
pub mod Keys
pub mod Noting
pub mod Numbers
pub mod Telling
pub mod Widened
