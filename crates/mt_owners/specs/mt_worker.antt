-- What this crate passes on of mt_worker to those above it.
pub use Rattle.mt_worker.specs.Accounts
pub use Rattle.mt_worker.specs.Due
pub use Rattle.mt_worker.specs.Faults
pub use Rattle.mt_worker.specs.Few
pub use Rattle.mt_worker.specs.Giving
pub use Rattle.mt_worker.specs.Gots
pub use Rattle.mt_worker.specs.Made
pub use Rattle.mt_worker.specs.Works
pub use Rattle.mt_worker.specs.declared.fault.WorkFault
pub use Rattle.mt_worker.specs.declared.seat.Subscription
pub use Rattle.mt_worker.specs.declared.working.Done
