pub mod Jobs
pub mod Rule
pub mod Ends
