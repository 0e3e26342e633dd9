-- What this crate passes on of mt_ledger to those above it.
pub use Rattle.mt_ledger.specs.Asking
pub use Rattle.mt_ledger.specs.Behind
pub use Rattle.mt_ledger.specs.Isolation
pub use Rattle.mt_ledger.specs.Ledger
pub use Rattle.mt_ledger.specs.Reporting
pub use Rattle.mt_ledger.specs.Subscribing
pub use Rattle.mt_ledger.specs.history.Asking as HistoryAsking
pub use Rattle.mt_ledger.specs.history.Behind as HistoryBehind
pub use Rattle.mt_ledger.specs.history.History
pub use Rattle.mt_ledger.specs.history.Isolation as HistoryIsolation
