pub mod Puts
pub mod Taking
pub mod Once
