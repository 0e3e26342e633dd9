pub mod Crashes
pub mod Starts
pub mod mt_interactions
pub mod mt_keeping
pub mod mt_shared
