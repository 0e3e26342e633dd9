pub mod Entries
pub mod Items
pub mod Latest
pub mod Laws
pub mod Writing
