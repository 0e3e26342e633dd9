pub mod Bare
pub mod EntryEvents
pub mod Untagged
