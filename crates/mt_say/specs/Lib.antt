pub mod Places
pub mod Saying
pub mod Scripts
pub mod Shapes
pub mod Words
