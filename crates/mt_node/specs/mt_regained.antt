-- What this crate passes on of mt_regained to those above it.
pub use Rattle.mt_regained.specs.Begun
pub use Rattle.mt_regained.specs.Laws
pub use Rattle.mt_regained.specs.Regained
pub use Rattle.mt_regained.specs.Reopened
pub use Rattle.mt_regained.specs.Reopening
pub use Rattle.mt_regained.specs.Rolled
