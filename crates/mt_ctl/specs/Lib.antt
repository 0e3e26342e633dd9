pub mod Asking
pub mod Hearing
pub mod Script
pub mod Showing
pub mod Steps
pub mod Testing
pub mod Text
