pub mod Lists
pub mod Noting
pub mod Places
pub mod Staying
