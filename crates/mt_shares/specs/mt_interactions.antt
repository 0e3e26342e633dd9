-- What this crate passes on of mt_interactions to those above it.
pub use Rattle.mt_worker.specs.mt_interactions.Configured
pub use Rattle.mt_worker.specs.mt_interactions.Deed
pub use Rattle.mt_worker.specs.mt_interactions.TheVariants
