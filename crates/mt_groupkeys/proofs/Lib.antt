pub mod Tagged
pub mod Found
pub mod Kept
pub mod Steps
pub mod Sorted
