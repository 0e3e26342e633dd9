pub mod Laws
pub mod Openings
pub mod Refusals
pub mod Window
