pub mod Blocks
pub mod Effects
pub mod Status
