pub mod Codes
pub mod Generated
pub mod Paths
pub mod Requests
pub mod Scan
pub mod Summary
