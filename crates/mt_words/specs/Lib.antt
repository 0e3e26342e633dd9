pub mod Words
pub mod Parsed
pub mod Sorting
