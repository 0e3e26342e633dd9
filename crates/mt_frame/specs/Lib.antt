pub mod Fields
pub mod Spelling
pub mod Writing
pub mod Reading
pub mod Faults
