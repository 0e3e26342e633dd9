pub mod Lists
pub mod Made
pub mod Merging
pub mod Sending
pub mod Sessions
