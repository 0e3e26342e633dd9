pub mod Books
pub mod Commits
pub mod Planned
pub mod Rooms
pub mod Carrying
pub mod Turns
