pub mod Codes
pub mod Difference
pub mod Laws
pub mod Marked
pub mod Parts
