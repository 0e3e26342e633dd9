pub mod Asked
pub mod Denials
pub mod Kept
pub mod Numbers
pub mod Reading
pub mod Rings
pub mod Telling
pub mod Walk
