pub mod Awaited
pub mod Retelling
pub mod Standing
