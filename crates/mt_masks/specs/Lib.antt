pub mod Laws
pub mod Masking
