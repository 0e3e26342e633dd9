pub mod Listed
pub mod Noted
pub mod Planned
pub mod Seen
pub mod Starting
