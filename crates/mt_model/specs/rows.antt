pub mod Devices
pub mod Order
pub mod Same
pub mod Seen
pub mod Setting
pub mod Shown
pub mod Sight
pub mod Stored
