pub mod Ending
pub mod Record
pub mod Serves
