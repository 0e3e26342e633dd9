pub mod Committing
pub mod Layout
pub mod Recovering
pub mod Standing
pub mod States
pub mod Stopping
