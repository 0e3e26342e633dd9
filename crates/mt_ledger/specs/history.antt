pub mod Asking
pub mod Behind
pub mod History
pub mod Isolation
pub mod Laws
