pub mod Abreast
pub mod Changing
pub mod Going
pub mod Looking
pub mod Parting
pub mod Reopening
