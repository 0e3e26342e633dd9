pub mod Counts
pub mod Known
pub mod Rule
pub mod Resting
pub mod History
