-- What this crate passes on of mt_ledger to those above it.
pub use Rattle.mt_interactions.specs.mt_ledger.Behind
pub use Rattle.mt_interactions.specs.mt_ledger.Ledger
