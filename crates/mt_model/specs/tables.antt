pub mod Access
pub mod Entries
pub mod Holding
pub mod KeySets
pub mod Known
pub mod Leaving
