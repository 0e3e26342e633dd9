pub mod Arrays
pub mod Changes
pub mod Contents
pub mod Keys
pub mod Laws
pub mod Steps
pub mod Values
