pub mod Crews
pub mod Few
pub mod Laws
pub mod Served
pub mod mt_legal
pub mod mt_interactions
pub mod mt_shares
