pub mod Noted
pub mod Parts
pub mod Placed
pub mod Remembered
pub mod Seen
pub mod Told
pub mod differences
