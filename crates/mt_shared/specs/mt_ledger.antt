-- What this crate passes on of mt_ledger to those above it.
pub use Rattle.mt_interactions.specs.mt_ledger.Asking
pub use Rattle.mt_interactions.specs.mt_ledger.Behind
pub use Rattle.mt_interactions.specs.mt_ledger.Ledger
pub use Rattle.mt_interactions.specs.mt_ledger.Reporting
pub use Rattle.mt_interactions.specs.mt_ledger.Subscribing
pub use Rattle.mt_interactions.specs.mt_ledger.HistoryAsking
pub use Rattle.mt_interactions.specs.mt_ledger.History
