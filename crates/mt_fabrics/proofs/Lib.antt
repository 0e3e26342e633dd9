pub mod Gaps
pub mod Places
pub mod Tables
pub mod Walks
