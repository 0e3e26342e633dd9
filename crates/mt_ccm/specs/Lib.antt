pub mod Aes
pub mod Ccm
pub mod Steps
pub mod Words
