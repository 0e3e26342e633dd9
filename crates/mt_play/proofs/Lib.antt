pub mod Begins
pub mod Committing
pub mod Coursing
pub mod Disks
pub mod Owning
pub mod Reopening
pub mod Stepping
