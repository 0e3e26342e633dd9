pub mod Commands
pub mod Doing
pub mod Gaining
pub mod Keeping
pub mod Laws
pub mod Lists
pub mod Replies
