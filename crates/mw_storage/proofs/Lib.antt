pub mod Elements
pub mod Equal
pub mod Named
pub mod Printed
pub mod Entries
pub mod Counting
pub mod Keeping
pub mod Shallow
