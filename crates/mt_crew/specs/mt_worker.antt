-- What this crate passes on of mt_worker to those above it.
pub use Rattle.mt_owners.specs.mt_worker.Accounts
pub use Rattle.mt_owners.specs.mt_worker.Done
pub use Rattle.mt_owners.specs.mt_worker.Due
pub use Rattle.mt_owners.specs.mt_worker.Faults
pub use Rattle.mt_owners.specs.mt_worker.Few
pub use Rattle.mt_owners.specs.mt_worker.Giving
pub use Rattle.mt_owners.specs.mt_worker.Gots
pub use Rattle.mt_owners.specs.mt_worker.WorkFault
