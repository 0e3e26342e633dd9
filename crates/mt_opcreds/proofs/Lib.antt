pub mod Choices
pub mod Forms
pub mod Moves
pub mod Others
pub mod Steps
pub mod Taken
pub mod Verdicts
pub mod Walks
