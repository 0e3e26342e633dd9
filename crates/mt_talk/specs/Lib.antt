pub mod Awaiting
pub mod Hearing
pub mod Retold
pub mod Talks
pub mod Naming
