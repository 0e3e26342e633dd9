pub mod Config
pub mod Contents
pub mod Events
pub mod LineKinds
pub mod Verdicts
