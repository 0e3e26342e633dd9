pub mod First
pub mod Messages
pub mod Numbers
pub mod Protocols
pub mod Writes
