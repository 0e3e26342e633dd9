pub mod Following
pub mod Laws
pub mod mt_owners
pub mod mt_receiver
pub mod mt_worker
pub mod mt_shared
pub mod mt_runs
