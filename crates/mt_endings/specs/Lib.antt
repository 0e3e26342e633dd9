pub mod Endings
pub mod Faults
pub mod Laws
pub mod Moments
pub mod OnDisk
pub mod Parts
pub mod Run
pub mod Statuses
