pub mod Steps
pub mod Vendors
