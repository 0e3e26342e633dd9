pub mod Begun
pub mod Laws
pub mod Regained
pub mod Reopened
pub mod Reopening
pub mod Rolled
pub mod mt_lasting
