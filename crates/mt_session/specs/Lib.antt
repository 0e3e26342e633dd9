pub mod Datagrams
pub mod Opening
pub mod Sessions
