pub mod Expired
pub mod Partly
pub mod Table
