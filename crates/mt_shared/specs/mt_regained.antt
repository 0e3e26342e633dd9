-- What this crate passes on of mt_regained to those above it.
pub use Rattle.mt_interactions.specs.mt_regained.Begun
pub use Rattle.mt_interactions.specs.mt_regained.Laws
pub use Rattle.mt_interactions.specs.mt_regained.Regained
pub use Rattle.mt_interactions.specs.mt_regained.Reopened
pub use Rattle.mt_interactions.specs.mt_regained.Reopening
pub use Rattle.mt_interactions.specs.mt_regained.Rolled
