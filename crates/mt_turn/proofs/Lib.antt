pub mod Sums
pub mod Beginnings
pub mod InLine
pub mod Steps
pub mod Sharing
pub mod TwoCalls
