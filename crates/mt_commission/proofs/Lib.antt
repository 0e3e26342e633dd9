pub mod Places
pub mod First
pub mod Owner
pub mod Forms
pub mod Steps
