pub mod Lines
pub mod Laws
pub mod mt_shares
pub mod mt_runs
pub mod mt_interactions
