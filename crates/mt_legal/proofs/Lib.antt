pub mod Going
pub mod Told
pub mod Standing
pub mod Steps
pub mod Books
