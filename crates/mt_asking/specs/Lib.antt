pub mod Asked
pub mod Laws
pub mod Made
pub mod Rows
