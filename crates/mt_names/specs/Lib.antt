pub mod clusters
pub mod Columns
pub mod Laws
pub mod Names
pub mod Words
