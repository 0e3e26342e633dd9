pub mod Configuration
pub mod Gives
pub mod Json
pub mod Lists
pub mod Rows
