pub mod Access
pub mod Validity
