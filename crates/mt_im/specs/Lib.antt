pub mod Blocks
pub mod Faults
pub mod Fields
pub mod Limits
pub mod Reading
pub mod Requests
pub mod Spelling
