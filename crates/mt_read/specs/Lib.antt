pub mod Denials
pub mod Reading
